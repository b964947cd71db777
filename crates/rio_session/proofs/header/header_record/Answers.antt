use Rattle.std.proofs.Common.{ap, ◌∙◌, arith}
use Rattle.rio_num.specs.Room.{Room}
use Rattle.rio_session.proofs.HeaderMade.{fits_words, key_low, made_key, made_record, made_whole}
use Rattle.rio_session.proofs.header.header_record.Goals as goal

pub header_data-requires : goal.header_data-requires
header_data-requires c = omega (arith, c.key_length-start.ensures.exact, key_low c.args.name.now c.requires.name, c.requires.short)

pub new_record-requires : goal.new_record-requires
new_record-requires c =
    let name = c.args.name.now in
    let head = c.args.head.now in
    let made = c.as_slice.ensures ∙ ap (λ (r : Room). r.bytes) c.in_ok-contents.ensures.exact in
    fits_words c.args.place c.args.datime c.args.cycle name head c.in_ok-words.words c.in_ok-words.ensures c.as_slice.result.now c.key_length-start.result c.key_length-start.ensures.exact made c.requires.place (omega arith) (omega arith) c.requires.name c.requires.short

pub returns-clause-head : goal.returns-clause-head
returns-clause-head c =
    let name = c.args.name.now in
    let head = c.args.head.now in
    let made = c.as_slice.ensures ∙ ap (λ (r : Room). r.bytes) c.in_ok-contents.ensures.exact in
    made_key c.args.place c.args.datime c.args.cycle name head c.in_ok-words.words c.in_ok-words.ensures c.as_slice.result.now c.key_length-start.result c.key_length-start.ensures.exact made c.new_record.result c.new_record.ensures.head

pub returns-clause-bytes : goal.returns-clause-bytes
returns-clause-bytes c =
    let name = c.args.name.now in
    let head = c.args.head.now in
    let made = c.as_slice.ensures ∙ ap (λ (r : Room). r.bytes) c.in_ok-contents.ensures.exact in
    made_record c.args.place c.args.datime c.args.cycle name head c.in_ok-words.words c.in_ok-words.ensures c.as_slice.result.now c.key_length-start.result c.key_length-start.ensures.exact made c.new_record.result c.new_record.ensures.bytes

pub returns-clause-whole : goal.returns-clause-whole
returns-clause-whole c =
    let name = c.args.name.now in
    let head = c.args.head.now in
    let made = c.as_slice.ensures ∙ ap (λ (r : Room). r.bytes) c.in_ok-contents.ensures.exact in
    made_whole c.args.place c.args.datime c.args.cycle name head c.in_ok-words.words c.in_ok-words.ensures c.as_slice.result.now c.key_length-start.result c.key_length-start.ensures.exact made c.new_record.result c.new_record.ensures.whole

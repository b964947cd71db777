use Rattle.std.proofs.Common.{◌∙◌, ap}
use Rattle.rio_num.specs.Room.{Room}
use Rattle.rio_session.proofs.MadeRecords.{made_bytes, made_head, same_data, untitled_size}
use Rattle.rio_session.proofs.place.record_of.Goals as goal

pub returns-clause-head : goal.returns-clause-head
returns-clause-head c =
    let at = untitled_size c.args.words _ _ _ c.requires.untitled c.as_slice.ensures c.as_slice-2.ensures c.key_length-start.ensures.exact in
    let same = same_data c.args.classes.now c.args.words c.args.value.now _ _ at (c.as_slice-3.ensures ∙ ap (λ (r : Room). r.bytes) c.in_ok-contents.ensures.exact) in
    made_head c.new_record.result c.args.words _ _ same c.new_record.ensures.head

pub returns-clause-bytes : goal.returns-clause-bytes
returns-clause-bytes c =
    let at = untitled_size c.args.words _ _ _ c.requires.untitled c.as_slice.ensures c.as_slice-2.ensures c.key_length-start.ensures.exact in
    let same = same_data c.args.classes.now c.args.words c.args.value.now _ _ at (c.as_slice-3.ensures ∙ ap (λ (r : Room). r.bytes) c.in_ok-contents.ensures.exact) in
    made_bytes c.new_record.result c.args.words _ _ same c.new_record.ensures.bytes

use Rattle.std.proofs.Common.{◌^◌, ◌<◌, ◌∙◌, ap, length, arith}
use Rattle.rio_create.proofs.{Drafts.{first_is}, NewFiles.{first_size}}
use Rattle.rio_create.proofs.first.first_of.Goals as goal

pub returns-clause-bytes : goal.returns-clause-bytes
returns-clause-bytes c =
    first_is c.args.name.now c.args.uuid.now c.args.datime c.in_ok-words.words c.in_ok-contents.contents c.write_dir.new.into c.directory_of.result c.as_slice.result.now c.in_ok-record.record.bytes.bytes
    c.in_ok-words.ensures c.in_ok-contents.ensures c.directory_of.ensures c.in_ok-write_dir.ensures c.as_slice.ensures c.in_ok-record.ensures.bytes

pub returns-clause-size : goal.returns-clause-size
returns-clause-size c =
    let is = first_is c.args.name.now c.args.uuid.now c.args.datime c.in_ok-words.words c.in_ok-contents.contents c.write_dir.new.into c.directory_of.result c.as_slice.result.now c.in_ok-record.record.bytes.bytes
    c.in_ok-words.ensures c.in_ok-contents.ensures c.directory_of.ensures c.in_ok-write_dir.ensures c.as_slice.ensures c.in_ok-record.ensures.bytes in
    let low : c.args.datime < 2 ^ 32 = omega arith in
    ap length is ∙ first_size c.args.name.now c.args.uuid.now c.args.datime c.requires c.told-uuid low

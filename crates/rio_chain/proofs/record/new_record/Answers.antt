use Rattle.std.proofs.Common.{◌+◌, subst, sym, arith}
use Rattle.rio_chain.specs.Segments.{IsRecord}
use Rattle.rio_chain.proofs.{Assembled.{four_spare, padded_is}, Records.{is_new_record}}
use Rattle.rio_chain.proofs.record.new_record.Goals as goal

pub returns-clause-bytes : goal.returns-clause-bytes
returns-clause-bytes c =
    padded_is c.args.words c.args.contents.now c.key_of-head.result c.key_of-head.ensures (c.from.result + c.from-2.result + 4) (omega arith) _ _ _ _ _
    c.new-bytes.ensures c.in_ok-reserve.ensures.ok c.in_ok-write_key.ensures c.in_ok-put.ensures c.in_ok-pad4.ensures

pub returns-clause-spare : goal.returns-clause-spare
returns-clause-spare c =
    four_spare c.args.words c.args.contents.now c.key_of-head.result c.key_of-head.ensures (c.from.result + c.from-2.result + 4) (omega arith) _ _ _ _ _
    c.new-bytes.ensures c.in_ok-reserve.ensures.ok c.in_ok-write_key.ensures c.in_ok-put.ensures c.in_ok-pad4.ensures c.requires

pub returns-clause-whole : goal.returns-clause-whole
returns-clause-whole c =
    let is = padded_is c.args.words c.args.contents.now c.key_of-head.result c.key_of-head.ensures (c.from.result + c.from-2.result + 4) (omega arith) _ _ _ _ _
    c.new-bytes.ensures c.in_ok-reserve.ensures.ok c.in_ok-write_key.ensures c.in_ok-put.ensures c.in_ok-pad4.ensures in
    subst (IsRecord c.args.words.place) (sym is) (is_new_record c.args.words c.args.contents.now c.requires).whole

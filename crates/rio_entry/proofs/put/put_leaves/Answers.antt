use Rattle.std.proofs.Common.{arith}
use Rattle.rio_write.proofs.SinkLaws.{bytes_lead, bytes_lead_end, bytes_lead_on}
use Rattle.rio_entry.specs.Leaves.{leaves_bytes}
use Rattle.rio_entry.proofs.LeafBytes.{bytes_step, length_step, past_leaves, within_all}
use Rattle.rio_entry.proofs.put.put_leaves.Goals as goal

pub put_value-requires : goal.put_value-requires
put_value-requires g c = λ b.
    let step = length_step c.args.leaves.now c.args.row.now c.loop-k.k c.index-leaves-k.result c.index-row-k.result (omega arith) (omega arith) c.index-leaves-k.is c.index-row-k.is in
    let all = within_all c.args.leaves.now c.args.row.now c.loop-k.k in
    rw c.letter_kind.ensures (omega (arith, step, all, c.requires.short b))

pub loop-k-init : goal.loop-k-init
loop-k-init g c = bytes_lead g.S.Sink.stands (leaves_bytes c.args.leaves.now c.args.row.now) c.args.sink.now

pub loop-k-preserved : goal.loop-k-preserved
loop-k-preserved g c =
    let step = bytes_step c.args.leaves.now c.args.row.now c.loop-k.k c.index-leaves-k.result c.index-row-k.result (omega arith) (omega arith) c.index-leaves-k.is c.index-row-k.is in
    let one = rw c.letter_kind.ensures at c.in_ok-put_value.ensures in
    bytes_lead_on g.S.Sink.stands (leaves_bytes c.args.leaves.now c.args.row.now) c.args.sink.now _ _ _ c.loop-k.sink c.put_value.new.sink step one c.loop-k.invariant

pub returns : goal.returns
returns g c =
    let none = past_leaves c.args.leaves.now c.args.row.now c.loop-k.k (omega arith) in
    bytes_lead_end g.S.Sink.stands (leaves_bytes c.args.leaves.now c.args.row.now) c.args.sink.now _ c.loop-k.sink none c.loop-k.invariant

use Rattle.std.proofs.Common.{List, subst, arith}
use Rattle.rio_format.specs.{Counts.{SaysAsFirst}, declared.value.Value.{Value}}
use Rattle.rio_entry.specs.declared.part.RowPart.{RowPart}
use Rattle.rio_machine.specs.RowEntries.{numbers_behind}
use Rattle.rio_entry.proofs.RowReads.{broken_goes_on}
use Rattle.rio_entry.proofs.row.broken_branch.Goals as goal

pub loop-k-preserved : goal.loop-k-preserved
loop-k-preserved c =
    let i = c.loop-k.invariant in
    let p = c.index-parts-k.result in
    let branch = λ (z : RowPart). z.branch.now in
    let entry = λ (z : RowPart). z.entry.now in
    let values = c.in-Ok.values in
    let says = subst (λ (vs : List Value). SaysAsFirst c.note_values.new.numbers (numbers_behind p.branch.now vs i.0)) c.as_slice.ensures (c.in_ok-note_values-in-Ok.ensures i.0 i.1) in
    (numbers_behind p.branch.now values i.0, says, broken_goes_on c.args.classes.now branch entry c.args.parts.now c.loop-k.k i.0 p (omega arith) c.index-parts-k.is values _ (c.in-Ok.ensures i.0 i.1) i.2)

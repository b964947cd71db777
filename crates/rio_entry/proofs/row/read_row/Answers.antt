use Rattle.std.proofs.Common.{◌≡◌, ◌++◌, ◌∙◌, ◌+◌, List, map, subst, sym, ap, arith}
use Rattle.rio_format.specs.{Counts.{SaysAsFirst}, declared.value.Value.{Value}}
use Rattle.rio_entry.specs.declared.part.RowPart.{RowPart}
use Rattle.rio_machine.specs.RowEntries.{numbers_behind, row_in}
use Rattle.rio_entry.proofs.RowReads.{left, row_goes_on, with_front}
use Rattle.rio_entry.proofs.row.read_row.Goals as goal

pub loop-part-preserved : goal.loop-part-preserved
loop-part-preserved c =
    let i = c.loop-part.invariant in
    let parts = c.args.parts.now in
    let k = c.loop-part.part-index in
    let p = c.part-item.result in
    let branch = λ (z : RowPart). z.branch.now in
    let entry = λ (z : RowPart). z.entry.now in
    let values = c.in_ok-values.values in
    let now = numbers_behind p.branch.now values i.0 in
    let says = subst (λ (vs : List Value). SaysAsFirst c.note_values.new.numbers (numbers_behind p.branch.now vs i.0)) c.as_slice.ensures (c.in_ok-note_values.ensures i.0 i.1) in
    let row : c.append.new.row ≡ c.loop-part.row ++ values = c.in_ok-append.ensures ∙ ap (λ (vs : List Value). c.loop-part.row ++ vs) c.as_slice-in-loop-part.ensures in
    let behind = row_goes_on c.args.classes.now branch entry parts k i.0 p (omega arith) c.part-item.is c.loop-part.row values _ (c.in_ok-values.ensures i.0 i.1) i.2 in
    let total = row_in c.args.classes.now (map branch parts) (map entry parts) in
    (now, says, subst (λ (front : List Value). with_front front (left c.args.classes.now branch entry parts k i.0 (k + 1) now) ≡ total) (sym row) behind)

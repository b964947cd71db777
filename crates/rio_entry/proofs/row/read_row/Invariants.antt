use Rattle.std.proofs.Common.{◌≡◌, drop, map}
use Rattle.rio_format.specs.{Bodies.{Counters}, Counts.{SaysAsFirst}}
use Rattle.rio_machine.specs.RowEntries.{row_from, row_in}
use Rattle.rio_entry.proofs.RowReads.{with_front}
use Rattle.rio_entry.proofs.row.read_row.Given as goal

abbrev pub invariant-loop-part : goal.invariant-loop-part
invariant-loop-part l =
    (now : Counters) × SaysAsFirst l.numbers now
    × (with_front l.row (row_from l.classes (map (λ p. p.branch.now) (drop l.part-index l.parts)) (map (λ p. p.entry.now) (drop l.part-index l.parts)) now)
    ≡ row_in l.classes (map (λ p. p.branch.now) l.parts) (map (λ p. p.entry.now) l.parts))

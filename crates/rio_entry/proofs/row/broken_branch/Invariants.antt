use Rattle.std.proofs.Common.{◌≡◌, ◌+◌, drop, map}
use Rattle.std.specs.Option.{option_map}
use Rattle.rio_format.specs.{Bodies.{Counters}, Counts.{SaysAsFirst}}
use Rattle.rio_entry.specs.Rows.{broken_branch, broken_from}
use Rattle.rio_entry.proofs.row.broken_branch.Given as goal

abbrev pub invariant-loop-k : goal.invariant-loop-k
invariant-loop-k l =
    (now : Counters) × SaysAsFirst l.numbers now
    × (option_map (λ j. j + l.k) (broken_from l.classes (map (λ p. p.branch.now) (drop l.k l.parts)) (map (λ p. p.entry.now) (drop l.k l.parts)) now)
    ≡ broken_branch l.classes (map (λ p. p.branch.now) l.parts) (map (λ p. p.entry.now) l.parts))

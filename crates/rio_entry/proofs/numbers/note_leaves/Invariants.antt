use Rattle.std.proofs.Common.{◌≡◌, drop}
use Rattle.rio_format.specs.{Bodies.{Counters}, Counts.{SaysAsFirst}}
use Rattle.rio_entry.specs.Leaves.{numbers_after}
use Rattle.rio_entry.proofs.numbers.note_leaves.Given as goal

abbrev pub invariant-loop-k : goal.invariant-loop-k
invariant-loop-k l =
    (before : Counters) → SaysAsFirst l.fn.numbers before
    → (now : Counters) × SaysAsFirst l.numbers now × (numbers_after (drop l.k l.leaves) (drop l.k l.values) now ≡ numbers_after l.leaves l.values before)

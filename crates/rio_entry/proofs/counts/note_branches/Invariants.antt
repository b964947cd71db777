use Rattle.std.proofs.Common.{◌≡◌, drop}
use Rattle.rio_format.specs.{Bodies.{Counters}, Counts.{SaysAsFirst}}
use Rattle.rio_entry.specs.Counted.{noted_branches}
use Rattle.rio_entry.proofs.counts.note_branches.Given as goal

abbrev pub invariant-loop-k : goal.invariant-loop-k
invariant-loop-k l =
    (before : Counters) → SaysAsFirst l.fn.numbers before
    → (now : Counters) × SaysAsFirst l.numbers now × (noted_branches l.branches l.row (drop l.k-index l.counters) now ≡ noted_branches l.branches l.row l.counters before)

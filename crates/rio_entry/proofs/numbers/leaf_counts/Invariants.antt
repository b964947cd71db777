use Rattle.std.proofs.Common.{◌≡◌, ◌++◌, drop, map}
use Rattle.rio_format.specs.{Bodies.{Counters}, Counts.{SaysAsFirst}}
use Rattle.rio_machine.specs.Rows.{leaf_column}
use Rattle.rio_machine.specs.RowEntries.{counts_before}
use Rattle.rio_entry.proofs.numbers.leaf_counts.Given as goal

abbrev pub invariant-loop-leaf : goal.invariant-loop-leaf
invariant-loop-leaf l =
    (before : Counters) → SaysAsFirst l.numbers before
    → l.counts ++ counts_before (map leaf_column (drop l.leaf-index l.leaves)) before ≡ counts_before (map leaf_column l.leaves) before

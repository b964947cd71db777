use Rattle.std.proofs.Common.{◌≡◌, ◌++◌, drop, map}
use Rattle.rio_entry.specs.Counting.{counters_within}
use Rattle.rio_entry.proofs.tree_counters.counters_of.Given as goal

abbrev pub invariant-loop-branch : goal.invariant-loop-branch
invariant-loop-branch l =
    l.counters.items ++ map (λ b. counters_within b.def.shape) (drop l.branch-index l.branches) ≡ map (λ b. counters_within b.def.shape) l.branches

use Rattle.std.proofs.Common.{◌≡◌, map, take}
use Rattle.rio_entry.specs.Counters.{leaf_count}
use Rattle.rio_entry.proofs.counts.count_leaves.Given as goal

abbrev pub invariant-loop-leaf : goal.invariant-loop-leaf
invariant-loop-leaf l = l.counts ≡ map (leaf_count l.branches l.row l.counters) (take l.leaf-index l.leaves)

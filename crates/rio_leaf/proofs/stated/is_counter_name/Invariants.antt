use Rattle.std.proofs.Common.{◌≡◌, ◌++◌, drop}
use Rattle.rio_leaf.specs.{Leaves.{has_counting_leaf}, Stated.{all_leaves}}
use Rattle.rio_leaf.proofs.stated.is_counter_name.Given as goal

abbrev pub invariant-loop-branch : goal.invariant-loop-branch
invariant-loop-branch l = has_counting_leaf (all_leaves (drop l.branch-index l.branches) ++ l.before) l.name ≡ has_counting_leaf (all_leaves l.branches ++ l.before) l.name

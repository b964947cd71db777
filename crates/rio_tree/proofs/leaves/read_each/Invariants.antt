use Rattle.std.proofs.Common.{◌≡◌, drop, length}
use Rattle.rio_tree.specs.{HeaderLeaves.{leaves_met}, Refusals.{leaves_from, no_leaves}, Tables.{labels_of, leaves_of_branch, met_of}}
use Rattle.rio_tree.proofs.leaves.read_each.Given as goal

abbrev pub invariant-loop-k : goal.invariant-loop-k
invariant-loop-k l = record {
  read : leaves_from (labels_of l.labels) l.branches (drop l.k l.items) (met_of l.met) (leaves_of_branch l.read) ≡ leaves_from (labels_of l.labels) l.branches l.items (met_of l.fn.met) no_leaves;
  met : leaves_met (labels_of l.labels) (length l.branches) (drop l.k l.items) (met_of l.met) ≡ leaves_met (labels_of l.labels) (length l.branches) l.items (met_of l.fn.met);
}

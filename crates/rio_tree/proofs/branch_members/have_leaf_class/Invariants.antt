use Rattle.std.proofs.Common.{◌≡◌, drop}
use Rattle.std.specs.List.{list_all}
use Rattle.rio_tree.specs.{Refusals.{has_leaf_class}, Tables.{labels_of}}
use Rattle.rio_tree.proofs.branch_members.have_leaf_class.Given as goal

abbrev pub invariant-loop-item : goal.invariant-loop-item
invariant-loop-item l = list_all (has_leaf_class (labels_of l.labels)) (drop l.item-index l.items) ≡ list_all (has_leaf_class (labels_of l.fn.labels)) l.items

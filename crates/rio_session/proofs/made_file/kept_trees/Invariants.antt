use Rattle.std.proofs.Common.{◌≡◌, map, take}
use Rattle.rio_session.proofs.FillLists.{opened_tree}
use Rattle.rio_session.proofs.made_file.kept_trees.Given as goal

abbrev pub invariant-loop-tree : goal.invariant-loop-tree
invariant-loop-tree l = l.table.trees ≡ map opened_tree (take l.tree-index l.trees)

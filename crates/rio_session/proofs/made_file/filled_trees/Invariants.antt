use Rattle.std.proofs.Common.{◌≡◌, map, take}
use Rattle.rio_session.specs.Fills.{filled_tree_of}
use Rattle.rio_session.proofs.made_file.filled_trees.Given as goal

abbrev pub invariant-loop-tree : goal.invariant-loop-tree
invariant-loop-tree l = l.filled.trees ≡ map filled_tree_of (take l.tree-index l.trees)

use Rattle.std.proofs.Common.{◌≡◌, ◌++◌, drop}
use Rattle.rio_tree.specs.WrittenTree.{leaf_backs}
use Rattle.rio_tree.proofs.written.leaf_backs.Given as goal

abbrev pub invariant-loop-branch : goal.invariant-loop-branch
invariant-loop-branch l = l.pointers ++ leaf_backs l.label (drop l.branch-index l.branches) ≡ leaf_backs 0 l.branches

use Rattle.std.proofs.Common.{◌≡◌, [], ◌++◌, drop}
use Rattle.rio_tree.specs.WrittenTree.{branch_pointers}
use Rattle.rio_tree.proofs.written.branch_pointers.Given as goal

abbrev pub invariant-loop-branch : goal.invariant-loop-branch
invariant-loop-branch l = l.pointers ++ branch_pointers l.known l.label (drop l.branch-index l.branches) ≡ branch_pointers [] 0 l.branches

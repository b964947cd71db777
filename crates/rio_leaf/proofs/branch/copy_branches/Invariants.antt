use Rattle.std.proofs.Common.{◌≡◌, take}
use Rattle.rio_leaf.proofs.branch.copy_branches.Given as goal

abbrev pub invariant-loop-branch : goal.invariant-loop-branch
invariant-loop-branch l = l.copies ≡ take l.branch-index l.branches

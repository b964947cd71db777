use Rattle.std.proofs.Common.{◌≡◌, ◌++◌, drop, map}
use Rattle.rio_fill.specs.Fill.{branch_fill_of}
use Rattle.rio_fill.proofs.filler.open_branches.Given as goal

abbrev pub invariant-loop-branch : goal.invariant-loop-branch
invariant-loop-branch l = l.opened.items ++ map branch_fill_of (drop l.branch-index l.branches) ≡ map branch_fill_of l.branches

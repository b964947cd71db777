use Rattle.std.proofs.Common.{◌≡◌, ◌++◌, drop}
use Rattle.rio_fill.specs.Heads.{saved_branches}
use Rattle.rio_fill.proofs.filler.saved_branches.Given as goal

abbrev pub invariant-loop-branch : goal.invariant-loop-branch
invariant-loop-branch l = l.saved ++ saved_branches l.entries (drop l.branch-index l.branches) l.rest ≡ saved_branches l.entries l.branches l.ats

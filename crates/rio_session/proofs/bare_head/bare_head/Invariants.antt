use Rattle.std.proofs.Common.{◌≡◌, ◌++◌, drop, map}
use Rattle.rio_tree.specs.HeaderLength.{bare_branch}
use Rattle.rio_session.proofs.bare_head.bare_head.Given as goal

abbrev pub invariant-loop-def : goal.invariant-loop-def
invariant-loop-def l = l.bare ++ map bare_branch (drop l.def-index l.branches) ≡ map bare_branch l.branches

use Rattle.std.proofs.Common.{◌≡◌, ◌++◌, drop}
use Rattle.rio_fill.proofs.branch.joined.Given as goal

abbrev pub invariant-loop-at : goal.invariant-loop-at
invariant-loop-at l = l.all ++ drop l.at-index l.more ≡ l.places ++ l.more

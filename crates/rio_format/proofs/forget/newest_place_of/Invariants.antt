use Rattle.rio_format.proofs.ChainLaws.{IsWalked, end_of}
use Rattle.rio_format.proofs.forget.newest_place_of.Given as goal

abbrev pub invariant-loop-at : goal.invariant-loop-at
invariant-loop-at l = IsWalked l.classes l.class.name l.at l.best

abbrev pub decreases-loop-at : goal.decreases-loop-at
decreases-loop-at l = end_of l.at

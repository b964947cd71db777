use Rattle.rio_recover.proofs.Garbage.{LeftSoFar}
use Rattle.rio_recover.proofs.recovery.garbage_of.Given as goal

abbrev pub invariant-loop-head : goal.invariant-loop-head
invariant-loop-head l = LeftSoFar l.check l.info l.heads l.head-index l.places

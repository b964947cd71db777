use Rattle.rio_session.proofs.NewHeads.{Heading}
use Rattle.rio_session.proofs.new_head.new_head.Given as goal

abbrev pub invariant-loop-k : goal.invariant-loop-k
invariant-loop-k l = Heading l.classes l.branches l.k l.made

use Rattle.rio_format.proofs.ChainLaws.{end_of}
use Rattle.rio_registry.proofs.HeldWalk.{IsAdded}
use Rattle.rio_registry.proofs.reach.add_held.Given as goal

abbrev pub invariant-loop-at : goal.invariant-loop-at
invariant-loop-at l = IsAdded l.classes l.outer l.fn.names l.names l.at

abbrev pub decreases-loop-at : goal.decreases-loop-at
decreases-loop-at l = end_of l.at

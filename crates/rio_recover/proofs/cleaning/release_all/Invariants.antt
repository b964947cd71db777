use Rattle.rio_recover.proofs.CleanLoop.{Releasing}
use Rattle.rio_recover.proofs.cleaning.release_all.Given as goal

abbrev pub invariant-loop-place : goal.invariant-loop-place
invariant-loop-place g l = Releasing (g.H.Host.view l.fn.host) (g.H.Host.view l.host) l.fn.chain l.places l.place-index l.chain

use Rattle.rio_session.proofs.ReleasesMade.{Releasing}
use Rattle.rio_session.proofs.release.release_all.Given as goal

abbrev pub invariant-loop-place : goal.invariant-loop-place
invariant-loop-place g l = Releasing (g.H.Host.view l.fn.host) (g.H.Host.view l.host) l.fn.chain l.places l.place-index l.chain

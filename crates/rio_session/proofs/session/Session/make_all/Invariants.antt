use Rattle.rio_session.proofs.BatchMade.{IsMadeTo}
use Rattle.rio_session.proofs.session.Session.make_all.Given as goal

abbrev pub invariant-loop-object : goal.invariant-loop-object
invariant-loop-object l = IsMadeTo l.self l.fn.place l.objects l.object-index l.at l.batch

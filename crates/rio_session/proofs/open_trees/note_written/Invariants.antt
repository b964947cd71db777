use Rattle.rio_session.proofs.NotedLaws.{Noting}
use Rattle.rio_session.proofs.open_trees.note_written.Given as goal

abbrev pub invariant-loop-k : goal.invariant-loop-k
invariant-loop-k l = Noting l.ats l.flags l.fn.filler l.k l.next l.filler

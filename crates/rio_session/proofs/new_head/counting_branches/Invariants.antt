use Rattle.rio_session.proofs.CountersFound.{Finding}
use Rattle.rio_session.proofs.new_head.counting_branches.Given as goal

abbrev pub invariant-loop-k : goal.invariant-loop-k
invariant-loop-k l = Finding l.before l.leaves l.k l.numbers

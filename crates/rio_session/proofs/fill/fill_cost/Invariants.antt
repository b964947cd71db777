use Rattle.rio_session.proofs.RowCosts.{Costing}
use Rattle.rio_session.proofs.fill.fill_cost.Given as goal

abbrev pub invariant-loop-k : goal.invariant-loop-k
invariant-loop-k l = Costing l.row l.pending l.k l.cost

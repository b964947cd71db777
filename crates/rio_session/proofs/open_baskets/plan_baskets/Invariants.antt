use Rattle.rio_fill.specs.Fill.{entry_count}
use Rattle.rio_session.proofs.Planned.{Planning}
use Rattle.rio_session.proofs.open_baskets.plan_baskets.Given as goal

abbrev pub invariant-loop-k : goal.invariant-loop-k
invariant-loop-k l = Planning l.datime l.tree.name (entry_count l.tree.fill) l.tree.fill.branches l.flags l.places l.k l.next l.planned.steps.items l.planned.ats

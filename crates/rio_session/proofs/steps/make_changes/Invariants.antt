use Rattle.std.proofs.Common.{length}
use Rattle.rio_session.proofs.StepsMade.{Making}
use Rattle.rio_session.proofs.steps.make_changes.Given as goal

abbrev pub invariant-loop-step : goal.invariant-loop-step
invariant-loop-step g l = Making (g.H.Host.view l.fn.host) (g.H.Host.view l.host) l.fn.chain l.fn.steps.items (length l.yielded) l.chain

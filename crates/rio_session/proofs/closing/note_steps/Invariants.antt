use Rattle.std.proofs.Common.{length}
use Rattle.rio_session.proofs.ClosingPlans.{AreNoted}
use Rattle.rio_session.proofs.closing.note_steps.Given as goal

abbrev pub invariant-loop-step : goal.invariant-loop-step
invariant-loop-step l = AreNoted l.fn.planned.chain.segments l.fn.planned.steps.items l.fn.steps.items (length l.yielded) l.planned.chain l.planned.steps.items

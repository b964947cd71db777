use Rattle.rio_step.proofs.{ClosedLaws.{closed_has_none_pending, saved_keeps_the_rest}, RunLaws.{run_end}}
use Rattle.rio_step.proofs.laws.runs_end_closed.Goals as goal

pub returns-clause-last : goal.returns-clause-last
returns-clause-last c = run_end

pub returns-clause-closed : goal.returns-clause-closed
returns-clause-closed c = closed_has_none_pending

pub returns-clause-saved : goal.returns-clause-saved
returns-clause-saved c = saved_keeps_the_rest

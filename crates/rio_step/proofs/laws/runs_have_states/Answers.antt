use Rattle.rio_step.proofs.RunLaws.{run_length, runs_begin_alike}
use Rattle.rio_step.proofs.laws.runs_have_states.Goals as goal

pub returns-clause-states : goal.returns-clause-states
returns-clause-states c = run_length

pub returns-clause-front : goal.returns-clause-front
returns-clause-front c = runs_begin_alike

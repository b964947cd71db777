use Rattle.rio_close.proofs.EndWord.{mark_keeps_state, mark_opens_file}
use Rattle.rio_close.proofs.laws.mark_keeps_state.Goals as goal

pub returns-clause-opens : goal.returns-clause-opens
returns-clause-opens c = mark_opens_file

pub returns-clause-state : goal.returns-clause-state
returns-clause-state c = mark_keeps_state

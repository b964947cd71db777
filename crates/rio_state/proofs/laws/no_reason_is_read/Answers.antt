use Rattle.rio_state.proofs.StateFound.{state_found}
use Rattle.rio_state.proofs.laws.no_reason_is_read.Goals as goal

pub returns : goal.returns
returns c = state_found

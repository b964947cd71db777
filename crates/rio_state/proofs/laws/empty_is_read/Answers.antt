use Rattle.rio_state.proofs.Stays.{empty_is_read}
use Rattle.rio_state.proofs.laws.empty_is_read.Goals as goal

pub returns : goal.returns
returns c = empty_is_read

use Rattle.rio_state.proofs.OneState.{reads_one}
use Rattle.rio_state.proofs.laws.one_state.Goals as goal

pub returns : goal.returns
returns c = reads_one

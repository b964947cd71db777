use Rattle.rio_state.proofs.CloseSizes.{close_size_is_need}
use Rattle.rio_state.proofs.laws.close_length_is_need.Goals as goal

pub returns : goal.returns
returns c = close_size_is_need

use Rattle.rio_state.proofs.OneReason.{reason_one}
use Rattle.rio_state.proofs.laws.one_reason.Goals as goal

pub returns : goal.returns
returns c = reason_one

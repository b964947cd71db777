use Rattle.rio_state.proofs.MeetsNoReason.{meets_no_reason}
use Rattle.rio_state.proofs.laws.meets_no_reason.Goals as goal

pub returns : goal.returns
returns c = meets_no_reason

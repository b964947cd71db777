use Rattle.rio_state.proofs.LessNeeds.{need_falls}
use Rattle.rio_state.proofs.laws.need_falls.Goals as goal

pub returns : goal.returns
returns c = need_falls

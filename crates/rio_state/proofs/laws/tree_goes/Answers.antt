use Rattle.rio_state.proofs.TreeGone.{tree_goes}
use Rattle.rio_state.proofs.laws.tree_goes.Goals as goal

pub returns : goal.returns
returns c = tree_goes

use Rattle.rio_effect.proofs.Fronts.{front_tells}
use Rattle.rio_effect.proofs.laws.front_tells.Goals as goal

pub returns : goal.returns
returns c = front_tells

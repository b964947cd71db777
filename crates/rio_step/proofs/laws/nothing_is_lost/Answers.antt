use Rattle.rio_step.proofs.KeptLaws.{nothing_is_lost}
use Rattle.rio_step.proofs.laws.nothing_is_lost.Goals as goal

pub returns : goal.returns
returns c = nothing_is_lost

use Rattle.rio_step.proofs.ApartLaws.{names_stay_apart}
use Rattle.rio_step.proofs.laws.names_stay_apart.Goals as goal

pub returns : goal.returns
returns c = names_stay_apart

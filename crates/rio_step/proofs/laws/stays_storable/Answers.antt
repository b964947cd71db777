use Rattle.rio_step.proofs.StorableLaws.{stays_storable}
use Rattle.rio_step.proofs.laws.stays_storable.Goals as goal

pub returns : goal.returns
returns c = stays_storable

use Rattle.rio_step.proofs.FillableLaws.{stays_fillable}
use Rattle.rio_step.proofs.laws.stays_fillable.Goals as goal

pub returns : goal.returns
returns c = stays_fillable

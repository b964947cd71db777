use Rattle.rio_step.proofs.FitStays.{all_stay_fit}
use Rattle.rio_step.proofs.laws.all_stay_fit.Goals as goal

pub returns : goal.returns
returns c = all_stay_fit

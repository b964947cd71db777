use Rattle.rio_step.proofs.DeclaredLaws.{classes_stay_declared}
use Rattle.rio_step.proofs.laws.classes_stay_declared.Goals as goal

pub returns : goal.returns
returns c = classes_stay_declared

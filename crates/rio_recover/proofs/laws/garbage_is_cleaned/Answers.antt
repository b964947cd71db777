use Rattle.rio_recover.proofs.CleanSteps.{garbage_is_cleaned}
use Rattle.rio_recover.proofs.laws.garbage_is_cleaned.Goals as goal

pub returns : goal.returns
returns c = garbage_is_cleaned

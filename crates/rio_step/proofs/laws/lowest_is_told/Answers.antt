use Rattle.rio_step.proofs.LowestLaws.{lowest_is_told}
use Rattle.rio_step.proofs.laws.lowest_is_told.Goals as goal

pub returns : goal.returns
returns c = lowest_is_told

use Rattle.rio_effect.proofs.AllItems.{items_stay_with, items_stay_without}
use Rattle.rio_effect.proofs.laws.items_stay.Goals as goal

pub returns-clause-without : goal.returns-clause-without
returns-clause-without c = items_stay_without

pub returns-clause-with_one : goal.returns-clause-with_one
returns-clause-with_one c = items_stay_with

use Rattle.rio_fill.proofs.SmallLaws.{open_stays_small}
use Rattle.rio_fill.proofs.laws.open_baskets_stay_small.Goals as goal

pub returns : goal.returns
returns c = open_stays_small

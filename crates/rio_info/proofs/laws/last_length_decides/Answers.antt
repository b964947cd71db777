use Rattle.rio_info.proofs.ListGrowth.{last_length_decides}
use Rattle.rio_info.proofs.laws.last_length_decides.Goals as goal

pub returns : goal.returns
returns c = last_length_decides

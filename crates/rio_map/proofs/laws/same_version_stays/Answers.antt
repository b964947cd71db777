use Rattle.rio_map.proofs.SameLaws.{same_version_stays_so}
use Rattle.rio_map.proofs.laws.same_version_stays.Goals as goal

pub returns : goal.returns
returns c = same_version_stays_so

use Rattle.rio_dir.proofs.ClosedLaws.{listed_once}
use Rattle.rio_dir.proofs.laws.one_listing.Goals as goal

pub returns : goal.returns
returns c = listed_once

use Rattle.rio_effect.proofs.NextHeaders.{later_header_replaces}
use Rattle.rio_effect.proofs.laws.later_header_replaces.Goals as goal

pub returns : goal.returns
returns c = later_header_replaces

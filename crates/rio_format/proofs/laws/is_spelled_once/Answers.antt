use Rattle.rio_format.proofs.ObjectLaws.{is_spelled_once}
use Rattle.rio_format.proofs.laws.is_spelled_once.Goals as goal

pub returns : goal.returns
returns c = is_spelled_once

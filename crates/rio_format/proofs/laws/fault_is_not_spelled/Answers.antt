use Rattle.rio_format.proofs.ObjectLaws.{fault_is_not_spelled}
use Rattle.rio_format.proofs.laws.fault_is_not_spelled.Goals as goal

pub returns : goal.returns
returns c = fault_is_not_spelled

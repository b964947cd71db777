use Rattle.rio_format.proofs.ObjectLaws.{fault_is_broken}
use Rattle.rio_format.proofs.laws.fault_is_broken.Goals as goal

pub returns : goal.returns
returns c = fault_is_broken

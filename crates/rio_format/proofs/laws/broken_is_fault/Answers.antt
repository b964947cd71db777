use Rattle.rio_format.proofs.ObjectLaws.{broken_is_fault}
use Rattle.rio_format.proofs.laws.broken_is_fault.Goals as goal

pub returns : goal.returns
returns c = broken_is_fault

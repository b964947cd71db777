use Rattle.rio_format.proofs.ObjectLaws.{read_is_spelled}
use Rattle.rio_format.proofs.laws.read_is_spelled.Goals as goal

pub returns : goal.returns
returns c = read_is_spelled

use Rattle.rio_format.proofs.WrittenValues.{written_is_spelled}
use Rattle.rio_format.proofs.laws.written_is_spelled.Goals as goal

pub returns : goal.returns
returns c = written_is_spelled

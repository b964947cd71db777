use Rattle.rio_key.proofs.KeyWritten.{key_spelled}
use Rattle.rio_key.proofs.laws.written_key_is_spelled.Goals as goal

pub returns : goal.returns
returns c = key_spelled

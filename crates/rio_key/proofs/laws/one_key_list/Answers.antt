use Rattle.rio_key.proofs.KeyLaws.{one_key_list_lem}
use Rattle.rio_key.proofs.laws.one_key_list.Goals as goal

pub returns : goal.returns
returns c = one_key_list_lem

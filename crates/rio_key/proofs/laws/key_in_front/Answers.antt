use Rattle.rio_key.proofs.KeyFront.{key_in_front_lem, key_from_front_lem}
use Rattle.rio_key.proofs.laws.key_in_front.Goals as goal

pub returns-clause-in_front : goal.returns-clause-in_front
returns-clause-in_front c = key_in_front_lem

pub returns-clause-from_front : goal.returns-clause-from_front
returns-clause-from_front c = key_from_front_lem

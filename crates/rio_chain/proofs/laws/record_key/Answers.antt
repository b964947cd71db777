use Rattle.std.proofs.Common.{◌∙◌, ap, List, ℕ}
use Rattle.rio_num.specs.Plain.{value_of}
use Rattle.rio_key.specs.Key.{key_at}
use Rattle.rio_num.proofs.Plain.{standing}
use Rattle.rio_key.proofs.KeyAgain.{key_again}
use Rattle.rio_chain.proofs.laws.record_key.Goals as goal

pub returns : goal.returns
returns c place bytes r = ap (λ (b : List ℕ). key_at (standing place b)) r.key.2 ∙ ap value_of (key_again r.head r.key.0 place r.key.1 r.key.3)

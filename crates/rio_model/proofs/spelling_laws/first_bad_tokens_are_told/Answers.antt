use Rattle.rio_model.proofs.ValueTold.{places_are_told}
use Rattle.rio_model.proofs.spelling_laws.first_bad_tokens_are_told.Goals as goal

pub returns : goal.returns
returns c = places_are_told

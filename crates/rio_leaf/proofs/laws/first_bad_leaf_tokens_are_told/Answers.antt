use Rattle.rio_leaf.proofs.ListTold.{leaf_places_are_told}
use Rattle.rio_leaf.proofs.laws.first_bad_leaf_tokens_are_told.Goals as goal

pub returns : goal.returns
returns c = leaf_places_are_told

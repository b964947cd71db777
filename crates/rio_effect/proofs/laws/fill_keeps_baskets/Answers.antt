use Rattle.rio_effect.proofs.{FillNeeds.{fill_held_grows, fill_keeps_baskets}, SavedTrees.{fill_saves_nothing}}
use Rattle.rio_effect.proofs.laws.fill_keeps_baskets.Goals as goal

pub returns-clause-kept : goal.returns-clause-kept
returns-clause-kept c = fill_keeps_baskets

pub returns-clause-held : goal.returns-clause-held
returns-clause-held c = fill_held_grows

pub returns-clause-saved : goal.returns-clause-saved
returns-clause-saved c = fill_saves_nothing

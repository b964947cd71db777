use Rattle.rio_effect.proofs.{SaveEffect.{save_changes, save_takes_effect}, SaveNeeds.{save_ends}}
use Rattle.rio_effect.proofs.laws.save_takes_effect.Goals as goal

pub returns-clause-changes : goal.returns-clause-changes
returns-clause-changes c = save_changes

pub returns-clause-effect : goal.returns-clause-effect
returns-clause-effect c = save_takes_effect

pub returns-clause-ends : goal.returns-clause-ends
returns-clause-ends c = save_ends

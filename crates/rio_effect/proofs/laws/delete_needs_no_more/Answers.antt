use Rattle.rio_effect.proofs.DeleteNeeds.{delete_keeps_less, delete_needs_no_more, deletes_cost_nothing}
use Rattle.rio_effect.proofs.laws.delete_needs_no_more.Goals as goal

pub returns-clause-kept : goal.returns-clause-kept
returns-clause-kept c = delete_keeps_less

pub returns-clause-need : goal.returns-clause-need
returns-clause-need c = delete_needs_no_more

pub returns-clause-cost : goal.returns-clause-cost
returns-clause-cost c = deletes_cost_nothing

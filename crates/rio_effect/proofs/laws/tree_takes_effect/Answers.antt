use Rattle.rio_effect.proofs.{FirstList.{first_list_is_put}, PendingFits.{pending_rows_fit}, TreeMade.{tree_ends, tree_takes_effect}}
use Rattle.rio_effect.proofs.laws.tree_takes_effect.Goals as goal

pub returns-clause-list : goal.returns-clause-list
returns-clause-list c = first_list_is_put

pub returns-clause-fit : goal.returns-clause-fit
returns-clause-fit c = pending_rows_fit

pub returns-clause-effect : goal.returns-clause-effect
returns-clause-effect c = tree_takes_effect

pub returns-clause-ends : goal.returns-clause-ends
returns-clause-ends c = tree_ends

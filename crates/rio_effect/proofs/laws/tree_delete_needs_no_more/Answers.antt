use Rattle.rio_effect.proofs.TreeNeeds.{tree_delete_forgets_rows, tree_delete_keeps_less, tree_delete_needs_no_more}
use Rattle.rio_effect.proofs.laws.tree_delete_needs_no_more.Goals as goal

pub returns-clause-kept : goal.returns-clause-kept
returns-clause-kept c = tree_delete_keeps_less

pub returns-clause-need : goal.returns-clause-need
returns-clause-need c = tree_delete_needs_no_more

pub returns-clause-rows : goal.returns-clause-rows
returns-clause-rows c = tree_delete_forgets_rows

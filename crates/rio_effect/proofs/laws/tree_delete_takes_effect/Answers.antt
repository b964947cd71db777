use Rattle.rio_effect.proofs.{ReleaseOrder.{tree_delete_changes}, TreeDeletes.{baskets_are_garbage, deletes_have_headers, saved_tree_delete_takes_effect, tree_delete_takes_effect}, TreeKeys.{tree_delete_key_follows}}
use Rattle.rio_effect.proofs.laws.tree_delete_takes_effect.Goals as goal

pub returns-clause-records : goal.returns-clause-records
returns-clause-records c = deletes_have_headers

pub returns-clause-all : goal.returns-clause-all
returns-clause-all c = tree_delete_takes_effect

pub returns-clause-saved : goal.returns-clause-saved
returns-clause-saved c = saved_tree_delete_takes_effect

pub returns-clause-keys : goal.returns-clause-keys
returns-clause-keys c = tree_delete_key_follows

pub returns-clause-garbage : goal.returns-clause-garbage
returns-clause-garbage c = baskets_are_garbage

pub returns-clause-changes : goal.returns-clause-changes
returns-clause-changes c = tree_delete_changes

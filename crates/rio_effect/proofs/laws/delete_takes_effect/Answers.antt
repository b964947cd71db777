use Rattle.rio_effect.proofs.{DeleteEffect.{delete_takes_effect, deletes_have_records, saved_delete_takes_effect}, DeleteRecords.{deletes_find_records}, SavedDeletes.{deletes_ignore_pending}}
use Rattle.rio_effect.proofs.laws.delete_takes_effect.Goals as goal

pub returns-clause-records : goal.returns-clause-records
returns-clause-records c = deletes_have_records

pub returns-clause-all : goal.returns-clause-all
returns-clause-all c = delete_takes_effect

pub returns-clause-saved : goal.returns-clause-saved
returns-clause-saved c = saved_delete_takes_effect

pub returns-clause-pending : goal.returns-clause-pending
returns-clause-pending c = deletes_ignore_pending

pub returns-clause-found : goal.returns-clause-found
returns-clause-found c = deletes_find_records

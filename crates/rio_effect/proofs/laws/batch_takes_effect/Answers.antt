use Rattle.rio_effect.proofs.{BatchEffect.{batch_keys_follow, batch_takes_effect, batches_have_records, batches_ignore_pending, saved_batch_keys_follow, saved_batch_takes_effect}, BatchHeld.{batch_held_grows}}
use Rattle.rio_effect.proofs.laws.batch_takes_effect.Goals as goal

pub returns-clause-records : goal.returns-clause-records
returns-clause-records c = batches_have_records

pub returns-clause-all : goal.returns-clause-all
returns-clause-all c = batch_takes_effect

pub returns-clause-saved : goal.returns-clause-saved
returns-clause-saved c = saved_batch_takes_effect

pub returns-clause-pending : goal.returns-clause-pending
returns-clause-pending c = batches_ignore_pending

pub returns-clause-keys : goal.returns-clause-keys
returns-clause-keys c = batch_keys_follow

pub returns-clause-saved_keys : goal.returns-clause-saved_keys
returns-clause-saved_keys c = saved_batch_keys_follow

pub returns-clause-held : goal.returns-clause-held
returns-clause-held c = batch_held_grows

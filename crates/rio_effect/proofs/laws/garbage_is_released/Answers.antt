use Rattle.rio_effect.proofs.{Garbage.{garbage_is_released, releases_keep_all}, PendingNames.{pending_by_names}}
use Rattle.rio_effect.proofs.laws.garbage_is_released.Goals as goal

pub returns-clause-one : goal.returns-clause-one
returns-clause-one c = garbage_is_released

pub returns-clause-all : goal.returns-clause-all
returns-clause-all c = releases_keep_all

pub returns-clause-pending : goal.returns-clause-pending
returns-clause-pending c = pending_by_names

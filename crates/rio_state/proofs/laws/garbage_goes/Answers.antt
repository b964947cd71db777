use Rattle.rio_state.proofs.{Cleaning.{garbage_is_left}, Unreferred.{garbage_goes, others_are_referred}}
use Rattle.rio_state.proofs.laws.garbage_goes.Goals as goal

pub returns-clause-same : goal.returns-clause-same
returns-clause-same c = garbage_goes

pub returns-clause-others : goal.returns-clause-others
returns-clause-others c = others_are_referred

pub returns-clause-left : goal.returns-clause-left
returns-clause-left c = garbage_is_left

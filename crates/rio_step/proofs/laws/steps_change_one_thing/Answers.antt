use Rattle.rio_step.proofs.{DeleteLaws.{deletes_take_one}, StepLaws.{puts_add_one, refused_changes_nothing}}
use Rattle.rio_step.proofs.laws.steps_change_one_thing.Goals as goal

pub returns-clause-refused : goal.returns-clause-refused
returns-clause-refused c = refused_changes_nothing

pub returns-clause-put : goal.returns-clause-put
returns-clause-put c = puts_add_one

pub returns-clause-delete : goal.returns-clause-delete
returns-clause-delete c = deletes_take_one

use Rattle.rio_effect.proofs.{ClassCommand.{class_takes_effect, classes_have_records, classes_ignore_pending}, ClassHeld.{class_held_grows}, StatesDescribed.{states_are_described}}
use Rattle.rio_effect.proofs.laws.class_takes_effect.Goals as goal

pub returns-clause-records : goal.returns-clause-records
returns-clause-records c = classes_have_records

pub returns-clause-effect : goal.returns-clause-effect
returns-clause-effect c = class_takes_effect

pub returns-clause-held : goal.returns-clause-held
returns-clause-held c = class_held_grows

pub returns-clause-pending : goal.returns-clause-pending
returns-clause-pending c = classes_ignore_pending

pub returns-clause-described : goal.returns-clause-described
returns-clause-described c = states_are_described

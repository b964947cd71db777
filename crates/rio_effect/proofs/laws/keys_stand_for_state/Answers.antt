use Rattle.rio_effect.proofs.{KeyReads.{keys_have_records}, KeysOfState.{keys_name_objects, keys_stand_for_state, object_keys_stand}}
use Rattle.rio_effect.proofs.laws.keys_stand_for_state.Goals as goal

pub returns-clause-stand : goal.returns-clause-stand
returns-clause-stand c = keys_stand_for_state

pub returns-clause-named : goal.returns-clause-named
returns-clause-named c = keys_name_objects

pub returns-clause-records : goal.returns-clause-records
returns-clause-records c = keys_have_records

pub returns-clause-objects : goal.returns-clause-objects
returns-clause-objects c = object_keys_stand

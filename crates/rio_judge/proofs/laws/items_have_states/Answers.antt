use Rattle.rio_judge.proofs.KeyStates as laws
use Rattle.rio_judge.proofs.laws.items_have_states.Goals as goal

pub returns-clause-states : goal.returns-clause-states
returns-clause-states c = laws.items_have_states

pub returns-clause-objects : goal.returns-clause-objects
returns-clause-objects c = laws.keys_of_objects_are_items

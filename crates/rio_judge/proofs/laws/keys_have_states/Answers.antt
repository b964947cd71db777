use Rattle.rio_judge.proofs.KeyStates as laws
use Rattle.rio_judge.proofs.laws.keys_have_states.Goals as goal

pub returns : goal.returns
returns c = laws.keys_have_states

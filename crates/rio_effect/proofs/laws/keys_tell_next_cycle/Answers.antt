use Rattle.rio_effect.proofs.NextCycles.{keys_tell_next_cycle}
use Rattle.rio_effect.proofs.laws.keys_tell_next_cycle.Goals as goal

pub returns : goal.returns
returns c = keys_tell_next_cycle

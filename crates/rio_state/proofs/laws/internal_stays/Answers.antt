use Rattle.rio_state.proofs.Stays.{internal_stays, keys_stay, need_stays}
use Rattle.rio_state.proofs.laws.internal_stays.Goals as goal

pub returns-clause-state : goal.returns-clause-state
returns-clause-state c = internal_stays

pub returns-clause-keys : goal.returns-clause-keys
returns-clause-keys c = keys_stay

pub returns-clause-need : goal.returns-clause-need
returns-clause-need c = need_stays

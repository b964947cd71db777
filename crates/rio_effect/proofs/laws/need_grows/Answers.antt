use Rattle.rio_effect.proofs.{Held.{held_grows}, Needs.{need_grows}, NeedsByKeys.{need_by_keys}, StateNeeds.{need_of_state}}
use Rattle.rio_effect.proofs.laws.need_grows.Goals as goal

pub returns-clause-grows : goal.returns-clause-grows
returns-clause-grows c = need_grows

pub returns-clause-keys : goal.returns-clause-keys
returns-clause-keys c = need_by_keys

pub returns-clause-state : goal.returns-clause-state
returns-clause-state c = need_of_state

pub returns-clause-held : goal.returns-clause-held
returns-clause-held c = held_grows

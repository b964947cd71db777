use Rattle.rio_effect.proofs.DeleteEffect.{delete_key_follows, delete_leaves_others}
use Rattle.rio_effect.proofs.laws.delete_leaves_others.Goals as goal

pub returns-clause-keys : goal.returns-clause-keys
returns-clause-keys c = delete_key_follows

pub returns-clause-objects : goal.returns-clause-objects
returns-clause-objects c = delete_leaves_others

use Rattle.rio_effect.proofs.PutKeys.{put_key_follows, saved_put_key_follows}
use Rattle.rio_effect.proofs.laws.keys_follow.Goals as goal

pub returns-clause-put : goal.returns-clause-put
returns-clause-put c = put_key_follows

pub returns-clause-saved_put : goal.returns-clause-saved_put
returns-clause-saved_put c = saved_put_key_follows

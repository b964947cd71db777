use Rattle.rio_effect.proofs.{PutEffect.{put_takes_effect, puts_have_records, saved_put_takes_effect}, SavedPuts.{puts_ignore_pending}}
use Rattle.rio_effect.proofs.laws.put_takes_effect.Goals as goal

pub returns-clause-puts : goal.returns-clause-puts
returns-clause-puts c = puts_have_records

pub returns-clause-all : goal.returns-clause-all
returns-clause-all c = put_takes_effect

pub returns-clause-saved : goal.returns-clause-saved
returns-clause-saved c = saved_put_takes_effect

pub returns-clause-pending : goal.returns-clause-pending
returns-clause-pending c = puts_ignore_pending

use Rattle.rio_queue.proofs.LogLaws.{replies_by_log}
use Rattle.rio_queue.proofs.laws.replies_by_log.Goals as goal

pub returns : goal.returns
returns c = replies_by_log

use Rattle.rio_queue.proofs.LogLaws.{log_grows}
use Rattle.rio_queue.proofs.laws.log_grows.Goals as goal

pub returns : goal.returns
returns c = log_grows

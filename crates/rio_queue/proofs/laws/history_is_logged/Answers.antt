use Rattle.rio_queue.proofs.LogLaws.{history_is_logged}
use Rattle.rio_queue.proofs.laws.history_is_logged.Goals as goal

pub returns : goal.returns
returns c = history_is_logged

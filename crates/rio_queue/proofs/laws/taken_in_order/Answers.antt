use Rattle.rio_queue.proofs.TakenLaws.{taken_in_order}
use Rattle.rio_queue.proofs.laws.taken_in_order.Goals as goal

pub returns : goal.returns
returns c = taken_in_order

use Rattle.rio_entry.proofs.HeadOrder.{head_in_order}
use Rattle.rio_entry.proofs.laws.read_heads_are_in_order.Goals as goal

pub returns : goal.returns
returns c = head_in_order

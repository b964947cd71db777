use Rattle.rio_machine.proofs.OrderLaws.{orders_are_total}
use Rattle.rio_machine.proofs.laws.orders_are_total.Goals as goal

pub returns : goal.returns
returns c = orders_are_total

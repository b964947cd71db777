use Rattle.rio_close.proofs.Closing.{directory_low}
use Rattle.rio_close.proofs.laws.directory_in_front.Goals as goal

pub returns : goal.returns
returns c links segments file n has head = directory_low links segments file n has head

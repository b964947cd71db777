use Rattle.rio_queue.proofs.NumberLaws.{numbers_suffice}
use Rattle.rio_queue.proofs.laws.numbers_suffice.Goals as goal

pub returns : goal.returns
returns c = numbers_suffice

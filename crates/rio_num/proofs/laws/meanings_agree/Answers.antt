use Rattle.rio_num.specs.Books.{books}
use Rattle.rio_num.proofs.Agree.{agrees}
use Rattle.rio_num.proofs.laws.meanings_agree.Goals as goal

pub returns : goal.returns
returns c n = agrees (books n)

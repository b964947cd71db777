use Rattle.rio_chain.proofs.Laying.{laid_put}
use Rattle.rio_chain.proofs.laws.laid_by_puts.Goals as goal

pub returns : goal.returns
returns c segments n shape some aligned = laid_put segments n shape some aligned

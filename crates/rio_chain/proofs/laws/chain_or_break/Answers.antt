use Rattle.rio_chain.proofs.Always.{always}
use Rattle.rio_chain.proofs.laws.chain_or_break.Goals as goal

pub returns : goal.returns
returns c file fits = always file fits

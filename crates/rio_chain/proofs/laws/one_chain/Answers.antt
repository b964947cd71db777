use Rattle.rio_chain.proofs.OneChain.{chain_one, break_one, never_both}
use Rattle.rio_chain.proofs.laws.one_chain.Goals as goal

pub returns-clause-chain : goal.returns-clause-chain
returns-clause-chain c file a b = chain_one file a b

pub returns-clause-break_place : goal.returns-clause-break_place
returns-clause-break_place c file p q = break_one file p q

pub returns-clause-either : goal.returns-clause-either
returns-clause-either c file links place = never_both file links place

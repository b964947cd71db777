use Rattle.rio_close.proofs.EndWord.{chain_ignores_end, head_says_end, state_ignores_end}
use Rattle.rio_close.proofs.laws.end_is_ignored.Goals as goal

pub returns-clause-head : goal.returns-clause-head
returns-clause-head c = head_says_end

pub returns-clause-chain : goal.returns-clause-chain
returns-clause-chain c = chain_ignores_end

pub returns-clause-state : goal.returns-clause-state
returns-clause-state c = state_ignores_end

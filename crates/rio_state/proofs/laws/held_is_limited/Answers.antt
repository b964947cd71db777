use Rattle.rio_state.proofs.HeaderBytes.{headers_are_bytes}
use Rattle.rio_state.proofs.HeldLimits.{held_is_limited}
use Rattle.rio_state.proofs.laws.held_is_limited.Goals as goal

pub returns-clause-held : goal.returns-clause-held
returns-clause-held c = held_is_limited

pub returns-clause-headers : goal.returns-clause-headers
returns-clause-headers c = headers_are_bytes

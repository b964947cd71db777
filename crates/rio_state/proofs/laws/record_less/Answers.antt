use Rattle.rio_state.proofs.LessRecords.{first_is_kept, record_less}
use Rattle.rio_state.proofs.laws.record_less.Goals as goal

pub returns-clause-less : goal.returns-clause-less
returns-clause-less c = record_less

pub returns-clause-first : goal.returns-clause-first
returns-clause-first c = first_is_kept

use Rattle.rio_dir.proofs.ClosedLaws.{read_is_spelled, spelled_is_read}
use Rattle.rio_dir.proofs.laws.closed_file_is_spelled.Goals as goal

pub returns-clause-found : goal.returns-clause-found
returns-clause-found c = read_is_spelled

pub returns-clause-only : goal.returns-clause-only
returns-clause-only c = spelled_is_read

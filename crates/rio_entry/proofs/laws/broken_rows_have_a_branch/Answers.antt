use Rattle.rio_entry.proofs.WholeRows.{broken_has_branch}
use Rattle.rio_entry.proofs.laws.broken_rows_have_a_branch.Goals as goal

pub returns : goal.returns
returns c = broken_has_branch

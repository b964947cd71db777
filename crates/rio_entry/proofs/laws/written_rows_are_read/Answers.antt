use Rattle.rio_entry.proofs.WholeRows.{written_rows_read}
use Rattle.rio_entry.proofs.laws.written_rows_are_read.Goals as goal

pub returns : goal.returns
returns c = written_rows_read

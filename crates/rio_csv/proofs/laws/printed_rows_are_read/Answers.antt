use Rattle.rio_csv.proofs.Again.{printed_rows_are_read}
use Rattle.rio_csv.proofs.laws.printed_rows_are_read.Goals as goal

pub returns : goal.returns
returns c = printed_rows_are_read

use Rattle.rio_csv.proofs.BadRows.{bad_rows_do_not_fit}
use Rattle.rio_csv.proofs.laws.bad_rows_do_not_fit.Goals as goal

pub returns : goal.returns
returns c = bad_rows_do_not_fit

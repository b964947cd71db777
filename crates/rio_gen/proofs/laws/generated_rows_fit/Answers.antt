use Rattle.rio_gen.proofs.RowLaws.{generated_rows_fit}
use Rattle.rio_gen.proofs.laws.generated_rows_fit.Goals as goal

pub returns : goal.returns
returns c = generated_rows_fit

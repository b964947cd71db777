use Rattle.rio_gen.proofs.SumLaws.{sum_is_known}
use Rattle.rio_gen.proofs.laws.generated_sum_is_known.Goals as goal

pub returns : goal.returns
returns c = sum_is_known

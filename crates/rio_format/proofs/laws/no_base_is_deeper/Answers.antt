use Rattle.rio_format.proofs.BaseDepth.{no_base_is_deeper}
use Rattle.rio_format.proofs.laws.no_base_is_deeper.Goals as goal

pub returns : goal.returns
returns c = λ classes target class version levels le. no_base_is_deeper classes target class version levels le

use Rattle.rio_model.proofs.ValueAgain.{spelled_are_read}
use Rattle.rio_model.proofs.spelling_laws.spelled_values_are_read.Goals as goal

pub returns : goal.returns
returns c = spelled_are_read

use Rattle.rio_model.proofs.ValueFurther.{values_end_further}
use Rattle.rio_model.proofs.read_laws.value_reading_goes_on.Goals as goal

pub returns : goal.returns
returns c = values_end_further

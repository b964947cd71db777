use Rattle.rio_model.proofs.ClassFurther.{classes_end_further}
use Rattle.rio_model.proofs.read_laws.class_reading_goes_on.Goals as goal

pub returns : goal.returns
returns c = classes_end_further

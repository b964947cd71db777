use Rattle.rio_model.proofs.ClassAgain.{spelled_classes_are_read}
use Rattle.rio_model.proofs.class_laws.spelled_classes_are_read.Goals as goal

pub returns : goal.returns
returns c = spelled_classes_are_read

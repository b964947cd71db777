use Rattle.rio_model.proofs.ClassFound.{read_classes_are_spelled}
use Rattle.rio_model.proofs.class_laws.read_classes_are_spelled.Goals as goal

pub returns : goal.returns
returns c = read_classes_are_spelled

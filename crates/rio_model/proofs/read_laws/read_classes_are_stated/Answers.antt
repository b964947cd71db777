use Rattle.rio_model.proofs.StatedClasses.{read_classes_are_stated}
use Rattle.rio_model.proofs.read_laws.read_classes_are_stated.Goals as goal

pub returns : goal.returns
returns c = read_classes_are_stated

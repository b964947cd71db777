use Rattle.rio_model.proofs.ReadDeclarations.{classes_are_read}
use Rattle.rio_model.proofs.read_laws.printed_classes_are_read.Goals as goal

pub returns : goal.returns
returns c = classes_are_read

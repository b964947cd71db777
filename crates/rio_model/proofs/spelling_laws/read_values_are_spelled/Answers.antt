use Rattle.rio_model.proofs.ValueFound.{read_are_spelled}
use Rattle.rio_model.proofs.spelling_laws.read_values_are_spelled.Goals as goal

pub returns : goal.returns
returns c = read_are_spelled

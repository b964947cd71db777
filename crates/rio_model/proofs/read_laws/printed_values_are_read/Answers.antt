use Rattle.rio_model.proofs.ReadLayers.{values_are_read}
use Rattle.rio_model.proofs.read_laws.printed_values_are_read.Goals as goal

pub returns : goal.returns
returns c = values_are_read

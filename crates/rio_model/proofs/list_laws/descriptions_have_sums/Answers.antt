use Rattle.rio_model.proofs.DescriptionSums.{descriptions_summed}
use Rattle.rio_model.proofs.list_laws.descriptions_have_sums.Goals as goal

pub returns : goal.returns
returns c = descriptions_summed

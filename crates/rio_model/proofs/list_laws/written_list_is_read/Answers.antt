use Rattle.rio_model.proofs.DescribedClasses.{written_list_read}
use Rattle.rio_model.proofs.list_laws.written_list_is_read.Goals as goal

pub returns : goal.returns
returns c = written_list_read

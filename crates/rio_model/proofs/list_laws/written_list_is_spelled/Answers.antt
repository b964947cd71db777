use Rattle.rio_model.proofs.ListSpelled.{written_list_is_spelled}
use Rattle.rio_model.proofs.list_laws.written_list_is_spelled.Goals as goal

pub returns : goal.returns
returns c = written_list_is_spelled

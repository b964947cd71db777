use Rattle.rio_dir.proofs.TableLaws.{list_spelled}
use Rattle.rio_dir.proofs.laws.written_key_list_is_spelled.Goals as goal

pub returns : goal.returns
returns c = list_spelled

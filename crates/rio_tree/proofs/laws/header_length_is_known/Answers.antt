use Rattle.rio_tree.proofs.HeaderLengths.{header_length_is_known}
use Rattle.rio_tree.proofs.laws.header_length_is_known.Goals as goal

pub returns : goal.returns
returns c = header_length_is_known

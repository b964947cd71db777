use Rattle.rio_tree.proofs.WrittenReads.{written_tree_is_read}
use Rattle.rio_tree.proofs.laws.written_tree_is_read.Goals as goal

pub returns : goal.returns
returns c = written_tree_is_read

use Rattle.rio_tree.proofs.WrittenFits.{written_tree_fits}
use Rattle.rio_tree.proofs.laws.written_tree_fits.Goals as goal

pub returns : goal.returns
returns c = written_tree_fits

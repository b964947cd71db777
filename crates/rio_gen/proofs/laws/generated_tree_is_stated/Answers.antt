use Rattle.rio_gen.proofs.RowLaws.{tree_is_stated}
use Rattle.rio_gen.proofs.laws.generated_tree_is_stated.Goals as goal

pub returns : goal.returns
returns c = tree_is_stated

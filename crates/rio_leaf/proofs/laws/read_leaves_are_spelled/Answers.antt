use Rattle.rio_leaf.proofs.ListLaws.{list_found}
use Rattle.rio_leaf.proofs.laws.read_leaves_are_spelled.Goals as goal

pub returns : goal.returns
returns c = λ leaves text read. let f = list_found text leaves read in (f.is, f.parts)

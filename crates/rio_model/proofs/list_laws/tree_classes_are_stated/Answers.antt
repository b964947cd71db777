use Rattle.rio_model.proofs.{DescribedTrees.{trees_stated}, ListNumbers.{written_are_described}}
use Rattle.rio_model.proofs.list_laws.tree_classes_are_stated.Goals as goal

pub returns-clause-trees : goal.returns-clause-trees
returns-clause-trees c = trees_stated

pub returns-clause-all : goal.returns-clause-all
returns-clause-all c = written_are_described

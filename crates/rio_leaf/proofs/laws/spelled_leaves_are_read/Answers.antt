use Rattle.std.proofs.Common.{ap, ◌∙◌}
use Rattle.rio_leaf.specs.Reading.{leaves_in}
use Rattle.rio_leaf.proofs.ListLaws.{list_again}
use Rattle.rio_leaf.proofs.laws.spelled_leaves_are_read.Goals as goal

pub returns : goal.returns
returns c = λ leaves text spelled. ap leaves_in spelled.1 ∙ list_again leaves spelled.0

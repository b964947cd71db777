use Rattle.rio_num.proofs.Agree.{agrees}
use Rattle.rio_head.specs.{Dir.{dir_layout}, Head.{header_layout}}
use Rattle.rio_head.proofs.laws.meanings_agree.Goals as goal

pub returns-clause-header : goal.returns-clause-header
returns-clause-header c = agrees header_layout

pub returns-clause-dir : goal.returns-clause-dir
returns-clause-dir c = agrees dir_layout

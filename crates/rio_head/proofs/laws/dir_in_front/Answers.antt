use Rattle.rio_head.proofs.DirCut.{dir_in_front_lem}
use Rattle.rio_head.proofs.laws.dir_in_front.Goals as goal

pub returns : goal.returns
returns c = dir_in_front_lem

use Rattle.rio_head.proofs.HeadCut.{head_in_front}
use Rattle.rio_head.proofs.laws.header_in_front.Goals as goal

pub returns : goal.returns
returns c = head_in_front

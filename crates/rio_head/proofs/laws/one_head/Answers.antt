use Rattle.std.proofs.Common.{sym, ◌∙◌}
use Rattle.rio_num.proofs.ReadLaws.{ok_is}
use Rattle.rio_head.specs.declared.fault.HeadFault.{HeadFault}
use Rattle.rio_head.proofs.HeadAgain.{head_only}
use Rattle.rio_head.proofs.laws.one_head.Goals as goal

pub returns : goal.returns
returns c = λ a b bytes first second. ok_is {E = HeadFault} a b (sym (head_only a 0 bytes first) ∙ head_only b 0 bytes second)

use Rattle.std.proofs.Common.{sym, ◌∙◌}
use Rattle.rio_num.specs.declared.cursor.Short.{Short}
use Rattle.rio_num.proofs.ReadLaws.{ok_is}
use Rattle.rio_head.proofs.DirLaws.{dir_only}
use Rattle.rio_head.proofs.laws.one_dir.Goals as goal

pub returns : goal.returns
returns c = λ a b bytes first second. ok_is {E = Short} a b (sym (dir_only a 0 bytes first) ∙ dir_only b 0 bytes second)

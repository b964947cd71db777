use Rattle.rio_write.proofs.SmallLaws.{are_alike, stand_anywhere}
use Rattle.rio_write.proofs.laws.small_builtins_are_alike.Goals as goal

pub returns : goal.returns
returns c = record { alike = are_alike; anywhere = stand_anywhere }

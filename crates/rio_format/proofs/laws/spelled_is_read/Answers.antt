use Rattle.rio_format.proofs.ObjectLaws.{spelled_is_read}
use Rattle.rio_format.proofs.laws.spelled_is_read.Goals as goal

pub returns : goal.returns
returns c = spelled_is_read

use Rattle.rootio.proofs.Beginnings.{beginnings_exist}
use Rattle.rootio.proofs.laws.beginnings_exist.Goals as goal

pub returns : goal.returns
returns c = beginnings_exist

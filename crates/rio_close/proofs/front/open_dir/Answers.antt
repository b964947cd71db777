use Rattle.rio_close.proofs.Fronts.{dir_same}
use Rattle.std.proofs.Common.{Ok, Err}
use Rattle.rio_close.proofs.front.open_dir.Goals as goal

pub returns-in-Ok-clause-exact : goal.returns-in-Ok-clause-exact
returns-in-Ok-clause-exact g c file told = dir_same file c.args.place _ (c.in_ok-n.ensures.bytes file told) (Ok c.in-Ok.dir) c.in-Ok.ensures.exact

pub returns-in-Err-clause-exact : goal.returns-in-Err-clause-exact
returns-in-Err-clause-exact g c file told = dir_same file c.args.place _ (c.in_ok-n.ensures.bytes file told) (Err c.in-Err.field-0) c.in-Err.ensures.exact

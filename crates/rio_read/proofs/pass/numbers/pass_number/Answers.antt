use Rattle.std.proofs.Common.{rules}
use Rattle.rio_read.proofs.Passing.{one_number}
use Rattle.rio_read.proofs.pass.numbers.pass_number.Goals as goal

pub returns-clause-exact : goal.returns-clause-exact
returns-clause-exact c = rw (one_number c.args.of c.args.reader.now) (search rules)

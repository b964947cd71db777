use Rattle.std.proofs.Common.{rules}
use Rattle.rio_format.specs.Objects.{object_of}
use Rattle.rio_read.proofs.PassedParts.{obj_string_passed}
use Rattle.rio_read.proofs.pass.plain.pass_obj_string.Goals as goal

pub returns-clause-exact : goal.returns-clause-exact
returns-clause-exact c = rw (obj_string_passed (object_of c.args.levels c.args.classes.now) c.args.reader.now) (search rules)

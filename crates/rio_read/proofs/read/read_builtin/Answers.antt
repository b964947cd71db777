use Rattle.rio_read.proofs.FaultLaws.{refuses_next, tells_next}
use Rattle.rio_read.proofs.ReadLaws.{is_read, is_spelled}
use Rattle.rio_read.proofs.read.read_builtin.Goals as goal

pub returns-clause-found : goal.returns-clause-found
returns-clause-found c =
    is_spelled c.args.classes.now c.args.class.now c.args.reader.now c.read_object.new.reader c.read_object.result c.read_object.ensures.bytes c.read_object.ensures.exact

pub returns-clause-only : goal.returns-clause-only
returns-clause-only c =
    is_read c.args.classes.now c.args.class.now c.args.reader.now c.read_object.new.reader c.read_object.result c.read_object.ensures.exact

pub returns-clause-broken : goal.returns-clause-broken
returns-clause-broken c =
    tells_next c.args.classes.now c.args.class.now c.args.reader.now c.read_object.new.reader c.read_object.result c.read_object.ensures.bytes c.read_object.ensures.exact

pub returns-clause-refused : goal.returns-clause-refused
returns-clause-refused c =
    refuses_next c.args.classes.now c.args.class.now c.args.reader.now c.read_object.new.reader c.read_object.result c.read_object.ensures.exact

use Rattle.std.proofs.Common.{subst, arith}
use Rattle.rio_read.specs.Reading.{Answers}
use Rattle.rio_read.proofs.FaultLaws.{refuses_first, tells_first}
use Rattle.rio_read.proofs.ReadLaws.{is_found, is_only}
use Rattle.rio_read.proofs.read.read_object.Goals as goal

pub returns-clause-found : goal.returns-clause-found
returns-clause-found c =
    is_found c.args.classes.now c.args.class.now c.args.start c.args.bytes.now c.read_first.result (λ i. omega (arith, c.type_inv.bytes i)) c.read_first.ensures

pub returns-clause-only : goal.returns-clause-only
returns-clause-only c = λ v front rest e spelled.
    subst (Answers c.read_first.result) (is_only c.args.classes.now c.args.class.now c.args.start c.args.bytes.now v front rest e spelled) c.read_first.ensures

pub returns-clause-broken : goal.returns-clause-broken
returns-clause-broken c =
    tells_first c.args.classes.now c.args.class.now c.args.start c.args.bytes.now c.read_first.result (λ i. omega (arith, c.type_inv.bytes i)) c.read_first.ensures

pub returns-clause-refused : goal.returns-clause-refused
returns-clause-refused c = refuses_first c.args.classes.now c.args.class.now c.args.start c.args.bytes.now c.read_first.result c.read_first.ensures

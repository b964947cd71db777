use Rattle.rio_format.proofs.ClassEqualLaws.{bases_decide}
use Rattle.rio_recover.proofs.classes.are_same_bases.Goals as goal

pub returns : goal.returns
returns c = rw (c.eq.ensures) (bases_decide c.args.a.now c.args.b.now)

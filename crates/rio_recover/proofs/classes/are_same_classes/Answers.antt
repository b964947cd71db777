use Rattle.rio_format.proofs.ClassEqualLaws.{classes_decide}
use Rattle.rio_recover.proofs.classes.are_same_classes.Goals as goal

pub returns : goal.returns
returns c = rw (c.eq.ensures) (classes_decide c.args.a.now c.args.b.now)

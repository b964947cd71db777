use Rattle.rio_recover.proofs.Declared.{DeclaringSoFar}
use Rattle.rio_recover.proofs.classes.declare_all.Given as goal

abbrev pub invariant-loop-class : goal.invariant-loop-class
invariant-loop-class l = DeclaringSoFar l.classes l.class-index l.registry

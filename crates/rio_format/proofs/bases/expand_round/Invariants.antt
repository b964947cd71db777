use Rattle.rio_format.specs.{Bases.{Expanded}, Lists.{listed}}
use Rattle.rio_format.proofs.bases.expand_round.Given as goal

abbrev pub invariant-loop-k : goal.invariant-loop-k
invariant-loop-k l = Expanded (listed l.classes) l.target l.fn.visits l.visits l.k

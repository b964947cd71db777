use Rattle.std.proofs.Common.{take}
use Rattle.rio_format.specs.Bases.{Pushed}
use Rattle.rio_format.proofs.bases.push_bases.Given as goal

abbrev pub invariant-loop-base : goal.invariant-loop-base
invariant-loop-base l = Pushed l.target (take l.base-index l.bases) l.fn.visits l.visits

use Rattle.rio_map.specs.Lacking.{IsWay}
use Rattle.rio_map.proofs.lacking.lacks_zero.Given as goal

abbrev pub invariant-loop : goal.invariant-loop
invariant-loop l = IsWay l.classes l.class l.way

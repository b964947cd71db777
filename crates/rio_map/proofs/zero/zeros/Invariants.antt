use Rattle.std.proofs.Common.{◌≡◌, replicate}
use Rattle.rio_model.specs.Mapping.{single_zero}
use Rattle.rio_map.proofs.zero.zeros.Given as goal

abbrev pub invariant-loop : goal.invariant-loop
invariant-loop l = l.zeros ≡ replicate l.counter (single_zero l.prim)

use Rattle.std.proofs.Common.{◌≡◌, replicate}
use Rattle.rio_queue.specs.Steps.{empty_unit}
use Rattle.rio_queue.proofs.fillers.open_units.Given as goal

abbrev pub invariant-loop : goal.invariant-loop
invariant-loop l = l.units.items ≡ replicate l.counter empty_unit

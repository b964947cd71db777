use Rattle.std.proofs.Common.{◌≡◌, ◌++◌, ◌-◌, map}
use Rattle.rio_gen.specs.Generated.{generated_row, generated_value, numbers_from}
use Rattle.rio_gen.proofs.script.generated_row.Given as goal

abbrev pub invariant-loop-number : goal.invariant-loop-number
invariant-loop-number l = l.row ++ map (generated_value l.fn.entry) (numbers_from l.number (20 - l.number)) ≡ generated_row l.fn.entry

use Rattle.std.proofs.Common.{◌≡◌, ◌++◌, drop}
use Rattle.rio_entry.proofs.row.append.Given as goal

abbrev pub invariant-loop-value : goal.invariant-loop-value
invariant-loop-value l = l.row ++ drop l.value-index l.values ≡ l.fn.row ++ l.values

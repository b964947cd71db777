use Rattle.std.proofs.Common.{◌≡◌, ◌+ℤ◌, drop}
use Rattle.std.specs.Int.{int_wrap, w128}
use Rattle.rio_gen.specs.Summary.{sum_of_row}
use Rattle.rio_gen.proofs.summary.add_integers.Given as goal

abbrev pub invariant-loop-value : goal.invariant-loop-value
invariant-loop-value l = int_wrap w128 (l.total +ℤ sum_of_row (drop l.value-index l.row)) ≡ int_wrap w128 (l.fn.sum +ℤ sum_of_row l.row)

use Rattle.std.proofs.Common.{◌≡◌, drop}
use Rattle.std.specs.Prelude.{slice_get}
use Rattle.rio_index.specs.Scan.{read_numbers}
use Rattle.rio_index.proofs.next.read_number.Given as goal

abbrev pub invariant-loop-k : goal.invariant-loop-k
invariant-loop-k l = slice_get (read_numbers l.k (drop l.k l.lanes)) l.left ≡ slice_get (read_numbers 0 l.lanes) l.fn.i

use Rattle.std.proofs.Common.{◌≡◌, Some}
use Rattle.rio_csv.proofs.{TakingLaws.{left_count}, ValueLaws.{with_front}}
use Rattle.rio_csv.specs.Rows.{rows_in}
use Rattle.rio_csv.proofs.reader.read_rows.Given as goal

abbrev pub invariant-loop-rows : goal.invariant-loop-rows
invariant-loop-rows l = with_front l.rows l.reader ≡ Some (rows_in l.fn.branches l.fn.bytes)

abbrev pub decreases-loop-rows : goal.decreases-loop-rows
decreases-loop-rows l = left_count l.reader

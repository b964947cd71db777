use Rattle.std.proofs.Common.{◌≡◌, ◌++◌, drop, length}
use Rattle.csv.specs.Records.{fields_of}
use Rattle.rio_csv.proofs.ValueLaws.{with_front}
use Rattle.rio_csv.specs.Rows.{values_in}
use Rattle.rio_csv.proofs.read.values_in.Given as goal

abbrev pub invariant-loop-i : goal.invariant-loop-i
invariant-loop-i l =
    (with_front l.values (values_in (drop l.i l.letters) (drop l.i (fields_of l.line))) ≡ values_in l.letters (fields_of l.line))
    × (length (fields_of l.line) ≡ length l.letters)

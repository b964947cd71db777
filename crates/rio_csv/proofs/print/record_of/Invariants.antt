use Rattle.std.proofs.Common.{◌≡◌, [], map, take}
use Rattle.csv.specs.Records.{fields_of, partial_of}
use Rattle.rio_csv.specs.Fields.{field_of}
use Rattle.rio_csv.proofs.print.record_of.Given as goal

abbrev pub invariant-loop-value : goal.invariant-loop-value
invariant-loop-value l = (fields_of l.line ≡ map field_of (take l.value-index l.row)) × (partial_of l.line ≡ [])

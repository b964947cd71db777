use Rattle.std.proofs.Common.{◌≡◌, ◌++◌, drop}
use Rattle.rio_report.specs.RowTexts.{values_behind}
use Rattle.rio_report.proofs.scan_text.put_values.Given as goal

abbrev pub invariant-loop-value : goal.invariant-loop-value
invariant-loop-value l = l.text.bytes ++ values_behind l.first (drop l.value-index l.values) ≡ l.fn.text.bytes ++ values_behind l.fn.first l.values

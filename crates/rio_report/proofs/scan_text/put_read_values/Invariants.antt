use Rattle.std.proofs.Common.{◌≡◌, ◌++◌, true, drop}
use Rattle.rio_entry.specs.BranchRows.{read_values}
use Rattle.rio_report.specs.RowTexts.{values_behind}
use Rattle.rio_report.proofs.scan_text.put_read_values.Given as goal

abbrev pub invariant-loop-k : goal.invariant-loop-k
invariant-loop-k l = l.text.bytes ++ values_behind l.first (read_values (drop l.k l.refusals) (drop l.k l.values)) ≡ l.fn.text.bytes ++ values_behind true (read_values l.refusals l.values)

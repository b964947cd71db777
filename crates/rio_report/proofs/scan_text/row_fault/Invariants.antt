use Rattle.std.proofs.Common.{◌≡◌, drop}
use Rattle.rio_entry.specs.RowFaults.{fault_of_lanes}
use Rattle.rio_report.proofs.scan_text.row_fault.Given as goal

abbrev pub invariant-loop-lane : goal.invariant-loop-lane
invariant-loop-lane l = fault_of_lanes (drop l.lane-index l.lanes) ≡ fault_of_lanes l.lanes

use Rattle.std.proofs.Common.{◌≡◌, ◌++◌, ℕ, List, Some, length, take}
use Rattle.std.specs.List.{flat_map, range_with_len}
use Rattle.rio_close.specs.Causes.{NoDiskFault, NoSayFault}
use Rattle.rio_report.specs.Scan.{row_line}
use Rattle.rio_entry.specs.Lanes.{AreLanes}
use Rattle.rio_report.specs.Gathered.{Gathered}
use Rattle.rio_report.proofs.scan_rows.gather_rows.Given as goal

abbrev pub invariant-loop-entry : goal.invariant-loop-entry
invariant-loop-entry g l = record {
  so_far : Gathered (λ file. l.fn.held.bytes ++ flat_map (row_line l.form file l.tree.classes.now l.tree.branches.now l.refusals) (take l.entry (range_with_len 0 l.entries))) l.held.bytes (g.H.Host.view l.fn.host) (g.H.Host.view l.host);
  holds : (g.H.Host.view l.host).holds ≡ (g.H.Host.view l.fn.host).holds;
  calm : NoDiskFault (g.H.Host.view l.fn.host) (g.H.Host.view l.host);
  heard : NoSayFault (g.H.Host.view l.fn.host) (g.H.Host.view l.host);
  lanes : (file : List ℕ) → (g.H.Host.view l.fn.host).holds ≡ Some file → AreLanes file l.entry l.tree.branches.now l.lanes.items;
  width : length l.lanes.items ≡ length l.tree.branches.now;
}

use Rattle.std.proofs.Common.{◌≡◌, ◌≤◌, ℕ, List, Some, length}
use Rattle.rio_host.specs.OnlyReads.{OnlyReads}
use Rattle.rio_entry.specs.Lanes.{AreLanes}
use Rattle.rio_report.specs.Summary.{summary_to}
use Rattle.rio_report.proofs.summary.sum_rows.Given as goal

abbrev pub invariant-loop-entry : goal.invariant-loop-entry
invariant-loop-entry g l = record {
  calls : OnlyReads (g.H.Host.view l.fn.host) (g.H.Host.view l.host);
  calm : (g.H.Host.view l.host).disk_faults ≡ (g.H.Host.view l.fn.host).disk_faults;
  within : l.entry ≤ l.entries;
  sum : (file : List ℕ) → (g.H.Host.view l.fn.host).holds ≡ Some file
      → l.summary ≡ summary_to file l.tree.classes.now l.tree.branches.now l.entries l.baskets l.entry;
  lanes : (file : List ℕ) → (g.H.Host.view l.fn.host).holds ≡ Some file → AreLanes file l.entry l.tree.branches.now l.lanes.items;
  width : length l.lanes.items ≡ length l.tree.branches.now;
}

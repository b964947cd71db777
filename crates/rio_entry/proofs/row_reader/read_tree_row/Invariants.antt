use Rattle.std.proofs.Common.{◌≡◌, ℕ, List, Some, drop, length, take}
use Rattle.rio_host.specs.OnlyReads.{OnlyReads}
use Rattle.rio_entry.specs.{declared.tree_row.TreeRow.{TreeRow}, Sweeps.{sweep, sweep_behind}}
use Rattle.rio_entry.specs.{Lanes.{AreLanes}, Checked.{row_made}}
use Rattle.rio_entry.proofs.row_reader.read_tree_row.Given as goal

abbrev pub invariant-loop-k : goal.invariant-loop-k
invariant-loop-k g l = record {
  calls : OnlyReads (g.H.Host.view l.fn.host) (g.H.Host.view l.host);
  calm : (g.H.Host.view l.host).disk_faults ≡ (g.H.Host.view l.fn.host).disk_faults;
  swept : (file : List ℕ) → (g.H.Host.view l.fn.host).holds ≡ Some file → AreLanes file l.entry l.tree.branches.now l.fn.lanes → (full : TreeRow) × (l.row ≡ row_made l.made full) × (sweep_behind file l.tree.classes.now l.entry (take l.k l.tree.branches.now) full (drop l.k l.tree.branches.now) (drop l.k l.refusals) ≡ sweep file l.tree.classes.now l.entry l.tree.branches.now l.refusals);
  lanes : (file : List ℕ) → (g.H.Host.view l.fn.host).holds ≡ Some file → AreLanes file l.entry l.tree.branches.now l.fn.lanes → AreLanes file l.entry l.tree.branches.now l.lanes;
  count : length l.row.refusals ≡ l.k;
  values : length l.row.values ≡ l.k;
  width : length l.lanes ≡ length l.fn.lanes;
}

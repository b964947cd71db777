use Rattle.std.proofs.Common.{◌≡◌, ◌-◌, ℕ, List, Some, length}
use Rattle.std.specs.{List.{list_all, range_with_len}, Option.{is_some}}
use Rattle.rio_host.specs.OnlyReads.{OnlyReads}
use Rattle.rio_entry.specs.{Lanes.{AreLanes}, SavedRows.{row_there}}
use Rattle.rio_entry.proofs.saved.are_rows_there.Given as goal

abbrev pub invariant-loop-entry : goal.invariant-loop-entry
invariant-loop-entry g l = record {
  calls : OnlyReads (g.H.Host.view l.fn.host) (g.H.Host.view l.host);
  calm : (g.H.Host.view l.host).disk_faults ≡ (g.H.Host.view l.fn.host).disk_faults;
  there : (file : List ℕ) → (g.H.Host.view l.fn.host).holds ≡ Some file
      → list_all (λ e. is_some (row_there file l.tree.classes.now l.tree.branches.now e)) (range_with_len l.entry (l.entries - l.entry))
      ≡ list_all (λ e. is_some (row_there file l.tree.classes.now l.tree.branches.now e)) (range_with_len 0 l.entries);
  lanes : (file : List ℕ) → (g.H.Host.view l.fn.host).holds ≡ Some file → AreLanes file l.entry l.tree.branches.now l.lanes.items;
  width : length l.lanes.items ≡ length l.tree.branches.now;
}

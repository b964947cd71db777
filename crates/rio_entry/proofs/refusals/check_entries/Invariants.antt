use Rattle.std.proofs.Common.{◌≡◌, ℕ, List, Some, length}
use Rattle.rio_host.specs.OnlyReads.{OnlyReads}
use Rattle.rio_entry.specs.Refusals.{refusals_of}
use Rattle.rio_entry.specs.Lanes.{AreLanes}
use Rattle.rio_entry.proofs.refusals.check_entries.Given as goal

abbrev pub invariant-loop-entry : goal.invariant-loop-entry
invariant-loop-entry g l = record {
  calls : OnlyReads (g.H.Host.view l.fn.host) (g.H.Host.view l.host);
  calm : (g.H.Host.view l.host).disk_faults ≡ (g.H.Host.view l.fn.host).disk_faults;
  refusals : (file : List ℕ) → (g.H.Host.view l.fn.host).holds ≡ Some file → l.fn.first ≡ refusals_of file l.tree.classes.now 0 l.tree.branches.now → l.refusals ≡ refusals_of file l.tree.classes.now l.entry l.tree.branches.now;
  lanes : (file : List ℕ) → (g.H.Host.view l.fn.host).holds ≡ Some file → AreLanes file l.entry l.tree.branches.now l.lanes.items;
  count : length l.refusals ≡ length l.tree.branches.now;
  width : length l.lanes.items ≡ length l.tree.branches.now;
}

use Rattle.std.proofs.Common.{◌≡◌, ℕ, List, Some, length}
use Rattle.rio_host.specs.OnlyReads.{OnlyReads}
use Rattle.rio_entry.specs.{HeldLanes.{HoldEntry}, Lanes.{AreLanes}}
use Rattle.rio_entry.proofs.saved.hold_all.Given as goal

abbrev pub invariant-loop-k : goal.invariant-loop-k
invariant-loop-k g l = record {
  calls : OnlyReads (g.H.Host.view l.fn.host) (g.H.Host.view l.host);
  calm : (g.H.Host.view l.host).disk_faults ≡ (g.H.Host.view l.fn.host).disk_faults;
  held : (file : List ℕ) → (g.H.Host.view l.fn.host).holds ≡ Some file → AreLanes file l.entry l.tree.branches.now l.fn.lanes → AreLanes file l.entry l.tree.branches.now l.lanes × HoldEntry file l.entry l.k l.tree.branches.now l.lanes;
  width : length l.lanes ≡ length l.fn.lanes;
}

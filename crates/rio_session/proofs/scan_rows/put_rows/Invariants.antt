use Rattle.std.proofs.Common.{◌≡◌, ℕ, List, Some, length}
use Rattle.rio_chain.specs.{Chains.{HasChain}, Segments.{Link}}
use Rattle.rio_host.specs.OnlyReads.{OnlyReads}
use Rattle.rio_session.specs.HeldBaskets.{AreLanes}
use Rattle.rio_session.proofs.ScanLines.{RowsPut}
use Rattle.rio_session.proofs.scan_rows.put_rows.Given as goal

abbrev pub invariant-loop-entry : goal.invariant-loop-entry
invariant-loop-entry g l = record {
  calls : OnlyReads (g.H.Host.view l.fn.host) (g.H.Host.view l.host);
  calm : (g.H.Host.view l.host).disk_faults ≡ (g.H.Host.view l.fn.host).disk_faults;
  put : RowsPut (g.H.Host.view l.fn.host) l.tree.chain.now.segments l.tree.classes.now l.class l.tree.filler.now l.fn.text.bytes l.entry l.text.bytes;
  lanes : (file : List ℕ) (links : List Link) → (g.H.Host.view l.fn.host).holds ≡ Some file → HasChain links l.tree.chain.now.segments file → AreLanes links l.entry l.tree.filler.now.branches l.lanes.items;
  width : length l.lanes.items ≡ length l.tree.filler.now.branches;
}

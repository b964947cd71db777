use Rattle.std.proofs.Common.{◌≡◌, ℕ, List, Some, length}
use Rattle.rio_chain.specs.{Chains.{HasChain}, Segments.{Link}}
use Rattle.rio_fill.specs.Fill.{entry_count}
use Rattle.rio_host.specs.OnlyReads.{OnlyReads}
use Rattle.rio_session.specs.HeldBaskets.{AreLanes, HoldEntry}
use Rattle.rio_session.proofs.scan_rows.hold_all.Given as goal

abbrev pub invariant-loop-k : goal.invariant-loop-k
invariant-loop-k g l = record {
  calls : OnlyReads (g.H.Host.view l.fn.host) (g.H.Host.view l.host);
  calm : (g.H.Host.view l.host).disk_faults ≡ (g.H.Host.view l.fn.host).disk_faults;
  held : (file : List ℕ) (links : List Link) → (g.H.Host.view l.fn.host).holds ≡ Some file → HasChain links l.tree.chain.now.segments file → AreLanes links l.entry l.tree.filler.now.branches l.fn.lanes
      → AreLanes links l.entry l.tree.filler.now.branches l.lanes × HoldEntry links (entry_count l.tree.filler.now) l.entry l.k l.tree.filler.now.branches l.lanes;
  width : length l.lanes ≡ length l.fn.lanes;
}

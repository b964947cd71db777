use Rattle.std.proofs.Common.{◌≡◌, ℕ, List, Some, drop, length, take}
use Rattle.rio_host.specs.OnlyReads.{OnlyReads}
use Rattle.rio_entry.specs.Refusals.{refusals_behind, refusals_of}
use Rattle.rio_entry.proofs.refusals.first_refusals.Given as goal

abbrev pub invariant-loop-k : goal.invariant-loop-k
invariant-loop-k g l = record {
  calls : OnlyReads (g.H.Host.view l.fn.host) (g.H.Host.view l.host);
  calm : (g.H.Host.view l.host).disk_faults ≡ (g.H.Host.view l.fn.host).disk_faults;
  refusals : (file : List ℕ) → (g.H.Host.view l.fn.host).holds ≡ Some file → refusals_behind file l.tree.classes.now 0 (take l.k l.tree.branches.now) l.refusals (drop l.k l.tree.branches.now) ≡ refusals_of file l.tree.classes.now 0 l.tree.branches.now;
  count : length l.refusals ≡ l.k;
}

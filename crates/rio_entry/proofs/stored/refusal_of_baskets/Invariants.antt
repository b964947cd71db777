use Rattle.std.proofs.Common.{◌≡◌, ℕ, List, Some}
use Rattle.rio_host.specs.OnlyReads.{OnlyReads}
use Rattle.rio_entry.specs.StoredEntries.{refusal_of_baskets}
use Rattle.rio_entry.proofs.Walks.{told_by}
use Rattle.rio_entry.proofs.stored.refusal_of_baskets.Given as goal

abbrev pub invariant-loop-k : goal.invariant-loop-k
invariant-loop-k g l = record {
  calls : OnlyReads (g.H.Host.view l.fn.host) (g.H.Host.view l.host);
  calm : (g.H.Host.view l.host).disk_faults ≡ (g.H.Host.view l.fn.host).disk_faults;
  told : (file : List ℕ) → (g.H.Host.view l.fn.host).holds ≡ Some file → told_by file l.offsets l.entries l.baskets l.k l.filled ≡ refusal_of_baskets file l.offsets l.entries l.baskets;
}

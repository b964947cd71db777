use Rattle.std.proofs.Common.{◌≡◌, drop}
use Rattle.rio_entry.specs.SavedRows.{have_entries}
use Rattle.rio_entry.proofs.saved.have_entries.Given as goal

abbrev pub invariant-loop-k : goal.invariant-loop-k
invariant-loop-k l = have_entries (drop l.k l.baskets) l.entries ≡ have_entries l.baskets l.entries

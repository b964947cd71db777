use Rattle.std.proofs.Common.{◌≡◌, drop}
use Rattle.rio_entry.specs.Leaves.{last_number}
use Rattle.rio_entry.proofs.counts.last_number.Given as goal

abbrev pub invariant-loop-k : goal.invariant-loop-k
invariant-loop-k l = last_number l.name (drop l.k l.leaves) (drop l.k l.values) l.last ≡ last_number l.name l.leaves l.values l.fn.found

use Rattle.std.proofs.Common.{◌≡◌, drop}
use Rattle.rio_index.specs.Scan.{wanted_from}
use Rattle.rio_index.proofs.search.first_wanted.Given as goal

abbrev pub invariant-loop-k : goal.invariant-loop-k
invariant-loop-k l = wanted_from l.k l.entry (drop l.k l.head.branches) (drop l.k l.lanes) ≡ wanted_from 0 l.entry l.head.branches l.lanes

use Rattle.std.proofs.Common.{◌≡◌, None, drop}
use Rattle.rio_entry.specs.Counters.{number_said}
use Rattle.rio_entry.proofs.counts.number_said.Given as goal

abbrev pub invariant-loop-k : goal.invariant-loop-k
invariant-loop-k l = number_said l.name l.branches l.row (drop l.k-index l.counters) l.found ≡ number_said l.name l.branches l.row l.counters None

use Rattle.std.proofs.Common.{◌≡◌, ◌++◌, drop, map}
use Rattle.rio_entry.specs.Counting.{counters_within}
use Rattle.rio_session.proofs.scan_rows.counters_of.Given as goal

abbrev pub invariant-loop-k : goal.invariant-loop-k
invariant-loop-k l = l.counters.items ++ map (λ b. counters_within b.def.shape) (drop l.k l.filler.branches) ≡ map (λ b. counters_within b.def.shape) l.filler.branches

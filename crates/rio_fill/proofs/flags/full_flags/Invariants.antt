use Rattle.std.proofs.Common.{◌≡◌, ◌≤◌, drop, length}
use Rattle.rio_fill.specs.Fill.{full_flags}
use Rattle.rio_fill.proofs.flags.full_flags.Given as goal

abbrev pub invariant-loop-k : goal.invariant-loop-k
invariant-loop-k l = (l.flags ≡ full_flags (drop l.k l.branches) (drop l.k l.entries)) × (l.k ≤ length l.branches)

abbrev pub decreases-loop-k : goal.decreases-loop-k
decreases-loop-k l = l.k

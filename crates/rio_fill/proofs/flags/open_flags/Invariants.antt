use Rattle.std.proofs.Common.{◌≡◌, ◌≤◌, drop, length}
use Rattle.rio_fill.specs.Fill.{open_flags}
use Rattle.rio_fill.proofs.flags.open_flags.Given as goal

abbrev pub invariant-loop-k : goal.invariant-loop-k
invariant-loop-k l = (l.flags ≡ open_flags (drop l.k l.branches)) × (l.k ≤ length l.branches)

abbrev pub decreases-loop-k : goal.decreases-loop-k
decreases-loop-k l = l.k

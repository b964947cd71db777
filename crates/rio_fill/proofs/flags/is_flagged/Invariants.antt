use Rattle.std.proofs.Common.{◌≡◌}
use Rattle.rio_fill.specs.Fill.{has_flag}
use Rattle.rio_fill.proofs.flags.is_flagged.Given as goal

abbrev pub invariant-loop-k : goal.invariant-loop-k
invariant-loop-k l = has_flag l.rest l.k ≡ has_flag l.flags l.branch

abbrev pub decreases-loop-k : goal.decreases-loop-k
decreases-loop-k l = l.k

use Rattle.std.proofs.Common.{◌≡◌, replicate}
use Rattle.rio_entry.specs.Lanes.{empty_handed}
use Rattle.rio_entry.proofs.refusals.empty_lanes.Given as goal

abbrev pub invariant-loop-k : goal.invariant-loop-k
invariant-loop-k l = l.lanes.items ≡ replicate l._k empty_handed

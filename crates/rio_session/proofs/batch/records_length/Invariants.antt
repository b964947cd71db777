use Rattle.std.proofs.Common.{◌≡◌, ◌+◌, drop}
use Rattle.std.specs.List.{sum_by}
use Rattle.rio_session.specs.Puts.{stored_length}
use Rattle.rio_session.proofs.batch.records_length.Given as goal

-- what is left is still to be added
abbrev pub invariant-loop-object : goal.invariant-loop-object
invariant-loop-object l = l.sum + sum_by stored_length (drop l.object-index l.objects) ≡ sum_by stored_length l.objects

use Rattle.std.proofs.Common.{◌≡◌, ◌+◌, drop}
use Rattle.std.specs.List.{sum_by}
use Rattle.rio_machine.specs.Limits.{head_length}
use Rattle.rio_session.proofs.batch.keys_length.Given as goal

-- what is left is still to be added
abbrev pub invariant-loop-object : goal.invariant-loop-object
invariant-loop-object l = l.sum + sum_by (λ o. head_length o.class o.name) (drop l.object-index l.objects) ≡ sum_by (λ o. head_length o.class o.name) l.objects

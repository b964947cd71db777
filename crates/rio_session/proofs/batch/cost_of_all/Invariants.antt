use Rattle.std.proofs.Common.{◌≡◌, ◌+◌, drop}
use Rattle.std.specs.List.{sum_by}
use Rattle.rio_session.proofs.batch.cost_of_all.Given as goal

-- what is left is still to be added
abbrev pub invariant-loop-object : goal.invariant-loop-object
invariant-loop-object l = l.cost + sum_by (λ o. 500 + o.length) (drop l.object-index l.objects) ≡ sum_by (λ o. 500 + o.length) l.objects

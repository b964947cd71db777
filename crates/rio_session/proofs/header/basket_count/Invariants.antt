use Rattle.std.proofs.Common.{◌≡◌, ◌+◌, drop, length}
use Rattle.std.specs.List.{sum_by}
use Rattle.rio_session.proofs.header.basket_count.Given as goal

abbrev pub invariant-loop-branch : goal.invariant-loop-branch
invariant-loop-branch l = l.baskets + sum_by (λ b. length b.baskets) (drop l.branch-index l.branch-items) ≡ sum_by (λ b. length b.baskets) l.branch-items

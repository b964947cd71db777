use Rattle.std.proofs.Common.{◌≡◌, ◌-◌, ◌++◌}
use Rattle.std.specs.Option.{option_map}
use Rattle.rio_tree.specs.{Refusals.{baskets_from}, Tables.{branch_of}}
use Rattle.rio_tree.proofs.stored.first_baskets.Given as goal

abbrev pub invariant-loop-k : goal.invariant-loop-k
invariant-loop-k l = option_map (λ more. l.baskets ++ more) (baskets_from (branch_of l.said) l.k (l.n - l.k)) ≡ baskets_from (branch_of l.said) 0 l.n

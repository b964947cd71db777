use Rattle.std.proofs.Common.{◌≡◌, ◌++◌, pos, drop, map}
use Rattle.rio_format.specs.declared.value.Value.{Int}
use Rattle.rio_tree.specs.WrittenBaskets.{number_of_basket}
use Rattle.rio_tree.proofs.written_baskets.basket_numbers.Given as goal

abbrev pub invariant-loop-basket : goal.invariant-loop-basket
invariant-loop-basket l =
    l.items ++ map (λ b. Int (pos (number_of_basket l.number b))) (drop l.basket-index l.baskets)
    ≡ map (λ b. Int (pos (number_of_basket l.number b))) l.baskets

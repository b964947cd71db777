-- The numbers of baskets, by what they are of.
use Rattle.std.specs.Prelude.{ℕ}
use Rattle.rio_tree.specs.declared.basket_at.BasketAt.{BasketAt}
use Rattle.rio_tree.specs.declared.written_baskets.BasketNumber.{BasketNumber, TheVariants.{Bytes, First, Seek}}

abbrev pub number_of_basket : BasketNumber → BasketAt → ℕ
number_of_basket Bytes basket = basket.bytes
number_of_basket First basket = basket.first
number_of_basket Seek basket = basket.seek

-- The basket that holds an entry.
use Rattle.std.specs.{Prelude.{ℕ, ◌+◌, ◌-◌, List, [], ◌∷◌, Option, Some, None, nat_lt, if◌then◌else◌}, Option.{option_map}}
use Rattle.rio_tree.specs.{Index.{basket_counts}, declared.basket_at.BasketAt.{BasketAt}}

-- the number of the basket that holds the entry, where baskets have so many entries, which are counted over all of them
abbrev pub holder : List ℕ → ℕ → Option ℕ
holder [] entry = None
holder (n ∷ ns) entry = if nat_lt entry n then Some 0 else option_map (λ k. k + 1) (holder ns (entry - n))

-- the number of the basket of a branch that holds the entry
abbrev pub basket_holding : List BasketAt → ℕ → ℕ → Option ℕ
basket_holding baskets entries entry = holder (basket_counts baskets entries) entry

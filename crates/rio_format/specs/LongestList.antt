-- How long the longest list within a value is. An array is a list, and so are the items of a collection.
use Rattle.std.specs.Prelude.{ℕ, max, length}
use Rattle.rio_format.specs.{Depth.{greatest}, declared.value.Value.{Value, TheOpen.{Value-F, List as Items, Object, Pointed}, TheFolds.{fold-Value}}}

-- one layer of a value, with the greatest length within each child in its place
abbrev pub longest_step : Value-F ℕ ℕ → ℕ
longest_step (Items within) = max (length within) (greatest within)
longest_step (Object class version within) = greatest within
longest_step (Pointed label within) = within
longest_step other = 0

abbrev pub longest_list_of : Value → ℕ
longest_list_of = fold-Value ℕ ℕ longest_step (λ p. p.value)

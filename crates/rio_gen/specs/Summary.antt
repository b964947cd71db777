-- What is said of a generated file.
use Rattle.std.specs.{Prelude.{ℕ, ℤ, pos, ◌+ℤ◌, List, [], ◌∷◌, ◌++◌, codes}, Fmt.{decimal, signed_decimal}}
use Rattle.rio_gen.specs.declared.summary.Summary.{Summary}
use Rattle.rio_format.specs.{Accessors.{number_in}, declared.value.Value.{Value, out-Value}}

-- the integers of a row, all together; another value counts as 0
abbrev pub sum_of_row : List Value → ℤ
sum_of_row [] = pos 0
sum_of_row (v ∷ vs) = number_in (out-Value v) +ℤ sum_of_row vs

abbrev pub sum_of_rows : List (List Value) → ℤ
sum_of_rows [] = pos 0
sum_of_rows (row ∷ rows) = sum_of_row row +ℤ sum_of_rows rows

-- gen N entries 20 branches B baskets sum S: a line
abbrev pub summary_text : Summary → List ℕ
summary_text s =
    codes "gen " ++ decimal s.entries ++ codes " entries 20 branches " ++ decimal s.baskets ++ codes " baskets sum "
    ++ signed_decimal s.sum ++ codes "\n"

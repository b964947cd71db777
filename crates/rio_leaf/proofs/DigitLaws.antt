-- Words that are no dimension.
use Rattle.std.proofs.Common.{◌≡◌, ℕ, ◌+◌, ◌*◌, ◌<◌, ◌≤◌, List, [], ◌∷◌, length, drop, get_or, slice_index, false, ◌==◌, ◌&&◌, not, refl, sym, ap, ◌∙◌, arith, le_refl, le_trans}
use Rattle.std.proofs.{lemmas.Bool.{and_left, and_right, Decides.{nat_tests}}, lemmas.List.{drop_more}}
use Rattle.std.specs.{Char.{is_ascii_digit, digit_value}, Str.{all_ascii_digits, Parse.{digits_value, digits_value_after}}}
use Rattle.rio_leaf.specs.{Leaves.{is_leaf_count}, Reading.{is_dimension}}

-- digits that follow make no number smaller
pub grows : (n : ℕ) (ds : List ℕ) → n ≤ digits_value_after 10 n ds
grows n [] = le_refl n
grows n (d ∷ ds) = let step : n ≤ n * 10 + digit_value d = omega arith in le_trans step (grows (n * 10 + digit_value d) ds)

pub not_digits : (word : List ℕ) → all_ascii_digits word ≡ false → is_dimension word ≡ false
not_digits word none =
    let first = not (slice_index word 0 == 48) in
    and_left (first && all_ascii_digits word) (is_leaf_count (digits_value 10 word)) (and_right first (all_ascii_digits word) none)

pub no_digit : (word : List ℕ) (i : ℕ) → i < length word → all_ascii_digits (drop i word) ≡ all_ascii_digits word → is_ascii_digit (get_or word i 0) ≡ false → is_dimension word ≡ false
no_digit word i lt all here =
    let none : all_ascii_digits word ≡ false = sym all ∙ ap all_ascii_digits (drop_more word i 0 lt) ∙ rw here refl in
    not_digits word none

pub too_great : (word : List ℕ) (i n : ℕ) → digits_value_after 10 n (drop i word) ≡ digits_value 10 word → 100000 < n → is_dimension word ≡ false
too_great word i n is lt =
    let least : n ≤ digits_value 10 word = omega (arith, is, grows n (drop i word)) in
    let above : 100000 < digits_value 10 word = omega arith in
    let v = digits_value 10 word in
    let none : is_leaf_count v ≡ false = grind (arith, nat_tests) in
    and_right (not (slice_index word 0 == 48) && all_ascii_digits word) (is_leaf_count v) none

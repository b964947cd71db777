-- A row of a generated file: its versions, its depth, its lists, and the bytes of its entries.
use Rattle.std.proofs.Common.{◌≡◌, ◌∙◌, ◌+◌, ◌*◌, ℕ, zero, suc, pos, List, [], ◌∷◌, ◌++◌, length, map, false, ◌||◌, Option, Some, refl, ap, arith}
use Rattle.std.proofs.lemmas.List.{append-nil, Sums.{sum_by-cons}}
use Rattle.std.specs.{Prelude.{nat_lt, option_and_then}, Int.{cast_unsigned}, List.{list_any, sum_by}, Option.{option_map}}
use Rattle.byteorder.specs.{Endian.{big_bytes}, Numbers.{length-bytes_high_first}}
use Rattle.rio_format.specs.{ReaderState.{no_words}, Bodies.{Counters}, Objects.{depth_limit}, Slots.{kinded}, Written.{Writing, width_in_bits, writing_step}}
use Rattle.rio_format.proofs.ValueCases.{fold_Int}
use Rattle.rio_gen.specs.Generated.{branch_name, generated_branch, generated_branches, generated_row, generated_value, integer_leaf, numbers_from}
use Rattle.rio_machine.specs.Limits.{has_long_entry, has_long_list, is_too_deep, is_too_long, list_limit}
use Rattle.rio_machine.specs.Rows.{columns_bytes, entries_from, entries_of, leaf_column, leaf_numbers_behind}
use Rattle.rio_model.specs.Resolving.{part_resolved, resolved_row, resolving_step}
use Rattle.rio_format.specs.{declared.class.ClassDef.{ClassDef}, declared.kind.Kind.TheVariants.{Plain}, declared.kind.Primitive.TheVariants.{I32}}
use Rattle.rio_format.specs.{Depth.{depth_step}, LongestList.{longest_step}, declared.value.Value.{Value, Int}}

-- what an entry has in so many branches, from this one on
abbrev values_from : ℕ → ℕ → ℕ → List Value
values_from e first n = map (generated_value e) (numbers_from first n)

-- ---- values

resolved_from : (classes : List ClassDef) (e first n : ℕ) → resolved_row classes (values_from e first n) ≡ Some (values_from e first n)
unfolding numbers_from
resolved_from classes e first zero = refl
resolved_from classes e first (suc n) =
    let head = fold_Int (resolving_step classes) (λ p. part_resolved p.name p.value) (pos (20 * e + first)) in
    let rest = resolved_from classes e (first + 1) n in
    λ i. option_and_then (λ x. option_map (λ xs. x ∷ xs) (rest i)) (head i [])

-- no object is left without a version
pub row_resolved : (classes : List ClassDef) (e : ℕ) → resolved_row classes (generated_row e) ≡ Some (generated_row e)
row_resolved classes e = resolved_from classes e 0 20

none_deep : (e first n : ℕ) → list_any is_too_deep (values_from e first n) ≡ false
unfolding numbers_from
none_deep e first zero = refl
none_deep e first (suc n) =
    let head = fold_Int depth_step (λ p. p.value) (pos (20 * e + first)) in
    let rest = none_deep e (first + 1) n in
    λ i. nat_lt depth_limit (head i) || rest i

pub row_not_deep : (e : ℕ) → list_any is_too_deep (generated_row e) ≡ false
row_not_deep e = none_deep e 0 20

none_listed : (e first n : ℕ) → list_any has_long_list (values_from e first n) ≡ false
unfolding numbers_from
none_listed e first zero = refl
none_listed e first (suc n) =
    let head = fold_Int longest_step (λ p. p.value) (pos (20 * e + first)) in
    let rest = none_listed e (first + 1) n in
    λ i. nat_lt list_limit (head i) || rest i

pub row_not_listed : (e : ℕ) → list_any has_long_list (generated_row e) ≡ false
row_not_listed e = none_listed e 0 20

-- ---- entries

module _ (classes : List ClassDef) (e : ℕ) where
  -- the value in one branch as a word
  abbrev word_at : ℕ → ℕ
  word_at first = cast_unsigned (width_in_bits I32) (pos (20 * e + first))

  -- the bytes there, and what its leaf says to later ones
  abbrev entry_at : ℕ → ℕ → Counters → List ℕ
  entry_at first n counters = columns_bytes classes (leaf_column (integer_leaf (branch_name first)) ∷ []) (generated_value e first ∷ values_from e (first + 1) n) counters

  abbrev said_at : ℕ → Counters → Counters
  said_at first counters = leaf_numbers_behind (leaf_column (integer_leaf (branch_name first))) (generated_value e first) counters

  abbrev entries_at : ℕ → ℕ → Counters → List (List ℕ)
  entries_at first n counters = entries_from classes (map generated_branch (numbers_from first n)) (values_from e first n) counters

  four : (first n : ℕ) (counters : Counters) → length (entry_at first n counters) ≡ 4
  four first n counters =
      ap (λ (w : Writing). length ((w.bytes (kinded (Plain I32)) 0 no_words).0 ++ [])) (fold_Int (writing_step classes) (λ p. p.value) (pos (20 * e + first)))
      ∙ ap (λ (bytes : List ℕ). length bytes) (append-nil (big_bytes 4 (word_at first)))
      ∙ length-bytes_high_first 4 (word_at first)

  weights : (first n : ℕ) (counters : Counters) → sum_by (λ entry. 2 * length entry + 5) (entries_at first n counters) ≡ 13 * n
  unfolding numbers_from
  weights first zero counters = refl
  weights first (suc n) counters =
      let weight = λ (entry : List ℕ). 2 * length entry + 5 in
      let x = entry_at first n counters in
      let xs = entries_at (first + 1) n (said_at first counters) in
      let one = four first n counters in
      let rest = weights (first + 1) n (said_at first counters) in
      let sums : 2 * length x + 5 + sum_by weight xs ≡ 13 * suc n = omega (arith, one, rest) in
      sum_by-cons weight x xs ∙ sums

  none_long : (first n : ℕ) (counters : Counters) → list_any (λ entry. is_too_long (length entry)) (entries_at first n counters) ≡ false
  unfolding numbers_from
  none_long first zero counters = refl
  none_long first (suc n) counters =
      let one = four first n counters in
      let rest = none_long (first + 1) n (said_at first counters) in
      λ i. is_too_long (one i) || rest i

  pub row_weight : sum_by (λ entry. 2 * length entry + 5) (entries_of classes generated_branches (generated_row e)) ≡ 260
  row_weight = weights 0 20 []

  pub row_not_long : has_long_entry classes generated_branches (generated_row e) ≡ false
  row_not_long = none_long 0 20 []

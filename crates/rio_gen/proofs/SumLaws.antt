-- The sum of the rows of a generated file.
use Rattle.std.proofs.Math.Seq.{drop-cons}
use Rattle.std.proofs.Common.{◌≡◌, ◌<◌, ◌+◌, ◌*◌, ◌∷◌, ◌∙◌, length, drop, get_or, ℕ, zero, suc, ℤ, pos, ◌+ℤ◌, List, map, refl, sym, ap, arith, mul-add, mul-one, mul-suc, suc-mul}
use Rattle.std.proofs.lemmas.Int.{int_wrap-add_left, ints}
use Rattle.std.specs.Int.{int_wrap, w128}
use Rattle.rio_gen.proofs.NumberLaws.{no_numbers, one_number}
use Rattle.rio_gen.specs.{Generated.{generated_row, generated_value, numbers_from, rows_from}, Laws.{SumIsKnown}, Summary.{sum_of_row, sum_of_rows}}
use Rattle.rio_format.specs.{Accessors.{number_in}, declared.value.Value.{Value, Int, out-Value, out-roll-Value, TheVariants.{rolls-Int}}}
use Rattle.rio_format.specs.declared.value.Value.TheOpen as layer

number_of_integer : (z : ℤ) → number_in (out-Value (Int z)) ≡ z
number_of_integer z = ap number_in (ap out-Value (sym (rolls-Int z)) ∙ out-roll-Value (layer.Int z))

-- the sum of some values of a row, one after the other
abbrev values_sum : ℕ → ℕ → ℕ → ℕ
values_sum e first zero = 0
values_sum e first (suc n) = (20 * e + first) + values_sum e (first + 1) n

values_summed : (e first n : ℕ) → sum_of_row (map (generated_value e) (numbers_from first n)) ≡ pos (values_sum e first n)
unfolding numbers_from
values_summed e first zero = refl
values_summed e first (suc n) = rw (number_of_integer (pos (20 * e + first)), values_summed e (first + 1) n) refl

row_sum : (e : ℕ) → sum_of_row (generated_row e) ≡ pos (400 * e + 190)
row_sum e = values_summed e 0 20 ∙ ap pos (omega arith)

-- the sum of n rows from entry e on
abbrev closed : ℕ → ℕ → ℕ
closed e zero = 0
closed e (suc n) = (400 * e + 190) + closed (e + 1) n

rows_sum : (e n : ℕ) → sum_of_rows (rows_from e n) ≡ pos (closed e n)
rows_sum e zero = ap sum_of_rows (ap (map generated_row) (no_numbers e))
rows_sum e (suc n) =
    ap sum_of_rows (ap (map generated_row) (one_number e n))
    ∙ ap (λ (z : ℤ). z +ℤ sum_of_rows (rows_from (e + 1) n)) (row_sum e)
    ∙ ap (λ (z : ℤ). pos (400 * e + 190) +ℤ z) (rows_sum (e + 1) n)

closed_is : (e n : ℕ) → closed e n + 10 * n ≡ 400 * (n * e) + 200 * (n * n)
closed_is e zero = omega arith
closed_is e (suc n) =
    let rest = closed_is (e + 1) n in
    omega (arith, rest, mul-add n e 1, mul-one n, suc-mul n e, suc-mul n (suc n), mul-suc n n)

pub sum_is_known : SumIsKnown
sum_is_known n s h =
    let all = closed_is 0 n in
    let none : n * 0 ≡ 0 = omega arith in
    rows_sum 0 n ∙ ap pos (omega (arith, all, none, h))

-- ---- the sum of a row, modulo 2^128

pub sum_goes_on : (total : ℤ) (v : Value) (rest : List Value)
    → int_wrap w128 (int_wrap w128 (total +ℤ number_in (out-Value v)) +ℤ sum_of_row rest) ≡ int_wrap w128 (total +ℤ sum_of_row (v ∷ rest))
sum_goes_on total v rest =
    int_wrap-add_left w128 (total +ℤ number_in (out-Value v)) (sum_of_row rest) ∙ ap (int_wrap w128) (omega (arith, ints))

-- the next value is added
pub value_added : (sum total next : ℤ) (row : List Value) (k : ℕ) (v : Value) → k < length row → v ≡ get_or row k v → next ≡ int_wrap w128 (total +ℤ number_in (out-Value v))
    → int_wrap w128 (total +ℤ sum_of_row (drop k row)) ≡ int_wrap w128 (sum +ℤ sum_of_row row) → int_wrap w128 (next +ℤ sum_of_row (drop (k + 1) row)) ≡ int_wrap w128 (sum +ℤ sum_of_row row)
value_added sum total next row k v lt is e so_far =
    let one : suc k ≡ k + 1 = omega arith in
    let more : drop k row ≡ v ∷ drop (k + 1) row =
    drop-cons row k v lt ∙ ap (λ (x : Value). x ∷ drop (suc k) row) (sym is) ∙ ap (λ (n : ℕ). v ∷ drop n row) one in
    ap (λ (z : ℤ). int_wrap w128 (z +ℤ sum_of_row (drop (k + 1) row))) e
    ∙ sum_goes_on total v (drop (k + 1) row)
    ∙ ap (λ (vs : List Value). int_wrap w128 (total +ℤ sum_of_row vs)) (sym more)
    ∙ so_far

-- What is written for a leaf is read as it.
use Rattle.std.proofs.Common.{◌≡◌, ℕ, ◌+◌, ◌^◌, ◌<◌, ◌≤◌, List, [], ◌∷◌, ◌++◌, length, get_or, slice_index, Bool, true, false, ◌==◌, ◌&&◌, ◌||◌, not, nat_le, Option, Some, Ok, refl, sym, ap, ◌∙◌, arith, append_assoc, length-append}
use Rattle.std.proofs.{lemmas.Bool.{and_parts, eqb-true, not-true, Decides.{nat_tests}}, lemmas.Fmt.{digits_decimal, digits_value-decimal, first_decimal}}
use Rattle.std.proofs.{lemmas.List.{take_at, drop_at}, lemmas.Str.Parse.{IsNumeralModel, numerals_by_value, tells_all_ascii_digits}}
use Rattle.std.specs.{Char.{is_ascii_digit}, Fmt.{decimal}, List.{list_all}, Str.{all_ascii_digits, Parse.{digits_value}}}
use Rattle.rio_num.specs.{At.{At}, Word.{begins_name, goes_on_name, is_word_byte, is_name_text}}
use Rattle.rio_num.proofs.Words.{IsOfWord, Stops, name_of_word, word_ends_there}
use Rattle.rio_leaf.specs.{declared.leaf.Dim.{Dim, TheVariants.{One, Fixed, Counted}}, declared.leaf.Leaf.{Leaf}}
use Rattle.rio_leaf.specs.Leaves.{counts_for, is_dim, is_leaf_count, is_letter_of, is_one, is_taken}
use Rattle.rio_leaf.specs.Marks.{before_dimension, is_leaf_letter, letter_of_texts}
use Rattle.rio_leaf.specs.Reading.{ReadLeaf, begins_with, byte_at, dim_at, dim_of, from_place, leaf_at, leaf_name_of, letter_in, no_more_at, said_at}
use Rattle.rio_leaf.specs.Spelling.{is_leaf_behind, text_of_dim, text_of_leaf}
use Rattle.rio_leaf.proofs.DigitLaws.{not_digits}

pub said_there : {A : Type 0} (says : List ℕ → Option A) (p : ℕ) (word rest : List ℕ) (x : A) → IsOfWord word → Stops rest → says word ≡ Some x → said_at says (from_place p (word ++ rest)) ≡ Ok (x, from_place (p + length word) rest)
unfolding said_at
said_there says p word rest x h e is = rw (word_ends_there word rest h e, take_at word rest (length word) refl, is, drop_at word rest (length word) refl) refl

-- ---- digits and letters are words

no_digit_first : (b : ℕ) → begins_name b ≡ true → is_ascii_digit b ≡ false
no_digit_first b h = grind arith

-- a name isn't all digits
pub name_no_digits : (name : List ℕ) → is_name_text name ≡ true → all_ascii_digits name ≡ false
name_no_digits [] h = absurd (cc)
name_no_digits (b ∷ bs) h =
    let outer = and_parts (begins_name b && list_all goes_on_name bs) (nat_le (length (b ∷ bs)) 100) h in
    let inner = and_parts (begins_name b) (list_all goes_on_name bs) outer.0 in
    rw (no_digit_first b inner.0) refl

digit_item : (b : ℕ) → is_ascii_digit b ≡ true → is_word_byte b ≡ true
digit_item b h = grind arith

pub digits_of_word : (bs : List ℕ) → all_ascii_digits bs ≡ true → IsOfWord bs
digits_of_word [] h = refl
digits_of_word (b ∷ bs) h = let parts = and_parts (is_ascii_digit b) (all_ascii_digits bs) h in rw (digit_item b parts.0, digits_of_word bs parts.1) refl

pub own : IsNumeralModel (λ ds. all_ascii_digits ds ≡ true) (digits_value 10)
own = numerals_by_value (λ ds. all_ascii_digits ds ≡ true) tells_all_ascii_digits

pub letter_item : (b : ℕ) → is_leaf_letter b ≡ true → is_word_byte b ≡ true
letter_item b h = grind (arith, nat_tests)

-- ---- dimensions

pub count_bounds : (n : ℕ) → is_leaf_count n ≡ true → (2 ≤ n) × (n ≤ 100000)
count_bounds n h = grind (arith, nat_tests)

no_zero : (ds : List ℕ) → 48 < get_or ds 0 0 → (slice_index ds 0 == 48) ≡ false
no_zero ds h = grind (arith, nat_tests)

-- behind a name without a dimension no bracket opens
abbrev pub ends_dim : Dim → List ℕ → Bool
ends_dim One rest = not (begins_with before_dimension rest)
ends_dim other rest = true

module _ (before : List Leaf) (name : List ℕ) where
  number_again : (n : ℕ) → is_leaf_count n ≡ true → dim_of before name (decimal n) ≡ Some (Fixed n)
  unfolding dim_of
  number_again n h =
      let bounds = count_bounds n h in
      let small : n < 2 ^ 64 = omega arith in
      let value : digits_value 10 (decimal n) ≡ n = digits_value-decimal own n small in
      let digits : all_ascii_digits (decimal n) ≡ true = digits_decimal own n small in
      let first : (slice_index (decimal n) 0 == 48) ≡ false = no_zero (decimal n) (first_decimal n (omega arith) small) in
      rw (first, digits, value, h) refl

  counter_again : (counter : List ℕ) → is_name_text counter ≡ true → counts_for before name counter ≡ true → dim_of before name counter ≡ Some (Counted counter 1)
  unfolding dim_of
  counter_again counter named counts = rw (not_digits counter (name_no_digits counter named), named, counts) refl

  bracketed : (p : ℕ) (word rest : List ℕ) (dim : Dim) → IsOfWord word → dim_of before name word ≡ Some dim
      → dim_at before name (from_place p ((91 ∷ (word ++ 93 ∷ [])) ++ rest)) ≡ Ok (dim, from_place (p + length (91 ∷ (word ++ 93 ∷ []))) rest)
  unfolding dim_at byte_at
  bracketed p word rest dim h says =
      let whole : (word ++ 93 ∷ []) ++ rest ≡ word ++ 93 ∷ rest = append_assoc word (93 ∷ []) rest in
      let there = said_there (dim_of before name) (p + 1) word (93 ∷ rest) dim h refl says in
      let place : p + 1 + length word + 1 ≡ p + length (91 ∷ (word ++ 93 ∷ [])) = omega (arith, length-append word (93 ∷ [])) in
      rw (whole, there, place) refl

  pub dim_again : (p : ℕ) (dim : Dim) (rest : List ℕ) → is_dim (counts_for before name) dim ≡ true → ends_dim dim rest ≡ true
      → dim_at before name (from_place p (text_of_dim dim ++ rest)) ≡ Ok (dim, from_place (p + length (text_of_dim dim)) rest)
  unfolding dim_at
  dim_again p One rest h ends =
      let none : begins_with 91 rest ≡ false = not-true (begins_with 91 rest) ends in
      let place : p ≡ p + 0 = omega arith in
      rw none (ap (λ (k : ℕ). let r : ReadLeaf Dim = Ok (One, from_place k rest) in r) place)
  dim_again p (Fixed n) rest h ends =
      let bounds = count_bounds n h in
      bracketed p (decimal n) rest (Fixed n) (digits_of_word (decimal n) (digits_decimal own n (omega arith))) (number_again n h)
  dim_again p (Counted counter times) rest h ends =
      let outer = and_parts (is_name_text counter && counts_for before name counter) (times == 1) h in
      let inner = and_parts (is_name_text counter) (counts_for before name counter) outer.0 in
      let one : times ≡ 1 = eqb-true times 1 outer.1 in
      bracketed p counter rest (Counted counter 1) (name_of_word counter inner.0) (counter_again counter inner.0 inner.1)
      ∙ ap (λ (t : ℕ). let r : ReadLeaf Dim = Ok (Counted counter t, from_place (p + length (91 ∷ (counter ++ 93 ∷ []))) rest) in r) (sym one)

-- ---- a leaf

stops_dim : (dim : Dim) (rest : List ℕ) → Stops (text_of_dim dim ++ 47 ∷ rest)
stops_dim One rest = refl
stops_dim (Fixed n) rest = refl
stops_dim (Counted counter times) rest = refl

slash_ends : (dim : Dim) (rest : List ℕ) → ends_dim dim (47 ∷ rest) ≡ true
slash_ends One rest = refl
slash_ends (Fixed n) rest = refl
slash_ends (Counted counter times) rest = refl

pub leaf_again : (before : List Leaf) (leaf : Leaf) (p : ℕ) → is_leaf_behind before leaf ≡ true → (s : At) × (leaf_at before (from_place p (text_of_leaf leaf)) ≡ Ok (leaf, s))
unfolding leaf_at byte_at no_more_at
leaf_again before leaf p h =
    let name = leaf.name in
    let behind = text_of_dim leaf.dim ++ 47 ∷ leaf.letter ∷ [] in
    let outer = and_parts (is_name_text name && not (is_taken before name) && is_dim (counts_for before name) leaf.dim) (is_letter_of leaf.dim leaf.letter) h in
    let middle = and_parts (is_name_text name && not (is_taken before name)) (is_dim (counts_for before name) leaf.dim) outer.0 in
    let named = and_parts (is_name_text name) (not (is_taken before name)) middle.0 in
    let lettered = and_parts (is_leaf_letter leaf.letter) (is_one leaf.dim || not (leaf.letter == letter_of_texts)) outer.1 in
    let says : leaf_name_of before name ≡ Some name = rw middle.0 refl in
    let one = said_there (leaf_name_of before) p name behind name (name_of_word name named.0) (stops_dim leaf.dim (leaf.letter ∷ [])) says in
    let q = p + length name + length (text_of_dim leaf.dim) in
    let two = dim_again before name (p + length name) leaf.dim (47 ∷ leaf.letter ∷ []) middle.1 (slash_ends leaf.dim (leaf.letter ∷ [])) in
    let letter_says : letter_in leaf.dim (leaf.letter ∷ []) ≡ Some leaf.letter = rw outer.1 refl in
    let letter_word : IsOfWord (leaf.letter ∷ []) = rw (letter_item leaf.letter lettered.0) refl in
    let three = said_there (letter_in leaf.dim) (q + 1) (leaf.letter ∷ []) [] leaf.letter letter_word refl letter_says in
    (from_place (q + 1 + 1 + 0) [], rw (one, two, three) refl)

-- The words of a leaf, its dimension and its letter: as they are spelled, and as they are read.
use Rattle.std.proofs.Common.{◌≡◌, ℕ, List, [], ◌∷◌, ◌++◌, length, true, not, ◌&&◌, ◌||◌, ◌==◌, Option, Some, None, refl, sym, ap, subst, ◌∙◌}
use Rattle.std.proofs.lemmas.Bool.{and_from, and_parts, eqb-true}
use Rattle.std.specs.{Prelude.{nat_le, option_and_then, unwrap_or, if◌then◌else◌}, List.{list_all}, Option.{option_map, option_or}}
use Rattle.rio_num.specs.Word.{begins_name, goes_on_name, is_name_text}
use Rattle.rio_token.specs.{Marks.{slash}, Reading.{some_if}, Words.{decimal, num_between_of, num_of, written}}
use Rattle.rio_leaf.specs.{declared.leaf.Dim.{Dim, TheVariants.{One, Fixed, Counted}}, declared.leaf.Leaf.{Leaf}, Reading.{letter_in}}
use Rattle.rio_leaf.specs.Leaves.{has_counting_leaf, is_dim, is_leaf_count, is_letter_of}
use Rattle.rio_model.specs.Lexemes.{Lexeme, glued, mark, word}
use Rattle.rio_model.proofs.{ReadWords.{no_digit}, ReadKinds.{none_of}}
use Rattle.rio_num.proofs.ReadLaws.{if_is}
use Rattle.rio_leaf.proofs.LeafFound.{letter_one}
use Rattle.rio_step.specs.{CommandSpelling.{SpellsDim, SpellsLeaf, in_square_brackets}, TreeGrammar.{is_new_leaf, leaf_dimension}}

-- ---- as they are read

abbrev pub ReadsDim : List Leaf → Dim → List Lexeme → Type 0
ReadsDim before One ls = ls ≡ []
ReadsDim before dim ls = (w : List ℕ) × (leaf_dimension before w ≡ Some dim) × (ls ≡ in_square_brackets w)

abbrev pub ReadsLeaf : List Leaf → Leaf → List Lexeme → Type 0
ReadsLeaf before leaf ls =
    (inside : List Lexeme) × (w : List ℕ) × (ls ≡ glued (word leaf.name) ∷ (inside ++ glued (mark slash) ∷ glued (word w) ∷ []))
    × (is_new_leaf before leaf.name ≡ true) × ReadsDim before leaf.dim inside × (letter_in leaf.dim w ≡ Some leaf.letter)

-- ---- what is read is spelled

module _ (before : List Leaf) where
  abbrev IsDim : Dim → Type 0
  IsDim dim = is_dim (has_counting_leaf before) dim ≡ true

  number_given : (w : List ℕ) (n : Option ℕ) (x : ℕ) → num_of w ≡ n → option_and_then (λ n. if nat_le 2 n && nat_le n 100000 then Some n else None) n ≡ Some x → (is_leaf_count x ≡ true) × (num_of w ≡ Some x)
  number_given w None x is e = absurd cc
  number_given w (Some n) x is e =
      let given = if_is (is_leaf_count n) n x e in (
        ap is_leaf_count (sym given.1) ∙ given.0,
        is ∙ ap (λ (k : ℕ). let o : Option ℕ = Some k in o) given.1,
      )

  size_by : (w : List ℕ) (n : Option ℕ) (dim : Dim) → num_between_of 2 100000 w ≡ n
      → option_or (option_map Fixed n) (some_if (is_name_text w && has_counting_leaf before w) (Counted w 1)) ≡ Some dim → IsDim dim × SpellsDim dim (in_square_brackets w)
  size_by w (Some n) dim is e =
      let same : Fixed n ≡ dim = ap (λ o. unwrap_or o (Fixed n)) e in
      let given = number_given w (num_of w) n refl is in
      subst (λ (d : Dim). IsDim d × SpellsDim d (in_square_brackets w)) same (given.0, (w, given.1, refl))
  size_by w None dim is e =
      let given = if_is (is_name_text w && has_counting_leaf before w) (Counted w 1) dim e in
      subst (λ (d : Dim). IsDim d × SpellsDim d (in_square_brackets w)) given.1
      (and_from (is_name_text w && has_counting_leaf before w) true given.0 refl, refl)

  size_spelled : (w : List ℕ) (dim : Dim) → leaf_dimension before w ≡ Some dim → IsDim dim × SpellsDim dim (in_square_brackets w)
  unfolding leaf_dimension
  size_spelled w dim e = size_by w (num_between_of 2 100000 w) dim refl e

  dim_spelled : (dim : Dim) (ls : List Lexeme) → ReadsDim before dim ls → IsDim dim × SpellsDim dim ls
  dim_spelled One ls c = (refl, c)
  dim_spelled dim ls c =
      let s = size_spelled c.0 dim c.1 in (s.0, subst (SpellsDim dim) (sym c.2) s.1)

  pub leaf_read_is_spelled : (leaf : Leaf) (ls : List Lexeme) → ReadsLeaf before leaf ls → SpellsLeaf before leaf ls
  leaf_read_is_spelled leaf ls c =
      let dim = dim_spelled leaf.dim c.0 c.4 in
      let letter = letter_one leaf.dim c.1 leaf.letter c.5 in (
        c.0,
        c.2 ∙ ap (λ (w : List ℕ). glued (word leaf.name) ∷ (c.0 ++ glued (mark slash) ∷ glued (word w) ∷ [])) letter.0,
        and_from _ _ (and_from _ _ c.3 dim.0) letter.1,
        dim.1,
      )

  -- ---- what is spelled is read

  no_number : (w : List ℕ) → is_name_text w ≡ true → num_between_of 2 100000 w ≡ None
  unfolding decimal written
  no_number [] h = absurd cc
  no_number (b ∷ bs) h =
      let outer = and_parts (begins_name b && list_all goes_on_name bs) (nat_le (length (b ∷ bs)) 100) h in
      let inner = and_parts (begins_name b) (list_all goes_on_name bs) outer.0 in
      rw (no_digit b inner.0) (none_of (λ n. if nat_le 2 n && nat_le n 100000 then Some n else None) (not (b == 48) || (length bs == 0)))

  dim_read : (dim : Dim) (ls : List Lexeme) → IsDim dim → SpellsDim dim ls → ReadsDim before dim ls
  unfolding leaf_dimension
  dim_read One ls is c = c
  dim_read (Fixed n) ls is c = let number = c.1 in (c.0, rw (number, is) refl, c.2)
  dim_read (Counted counter times) ls is c =
      let outer = and_parts (is_name_text counter && has_counting_leaf before counter) (times == 1) is in
      let one = eqb-true times 1 outer.1 in
      let parts = and_parts (is_name_text counter) (has_counting_leaf before counter) outer.0 in
      (counter, rw (no_number counter parts.0, outer.0, one) refl, c)

  pub spelled_leaf_is_read : (leaf : Leaf) (ls : List Lexeme) → SpellsLeaf before leaf ls → ReadsLeaf before leaf ls
  spelled_leaf_is_read leaf ls c =
      let outer = and_parts (is_new_leaf before leaf.name && is_dim (has_counting_leaf before) leaf.dim) (is_letter_of leaf.dim leaf.letter) c.2 in
      let inner = and_parts (is_new_leaf before leaf.name) (is_dim (has_counting_leaf before) leaf.dim) outer.0 in
      let letter = outer.1 in (
        c.0,
        leaf.letter ∷ [],
        c.1,
        inner.0,
        dim_read leaf.dim c.0 inner.1 c.3,
        rw letter refl,
      )

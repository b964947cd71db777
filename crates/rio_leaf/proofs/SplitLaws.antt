-- Leaves are read up to the first colon, and then the others.
use Rattle.std.proofs.Common.{◌≡◌, ℕ, ◌+◌, ◌-◌, ◌<◌, ◌≤◌, List, [], ◌∷◌, length, take, drop, ◌==◌, refl, sym, ap, ◌∙◌, arith}
use Rattle.std.proofs.lemmas.List.{take_all, length-drop, drop-drop, Splits.{slice_split_first, slice_split_none}, Sums.{fails_before_first}}
use Rattle.std.specs.List.{position_or_len}
use Rattle.rio_leaf.specs.{Marks.{between_leaves}, Reading.{pieces}}

abbrev pub colon_place : List ℕ → ℕ
colon_place = position_or_len (λ b. b == between_leaves)

-- where no colon stands, the text is one piece
one_piece : (text : List ℕ) → colon_place text ≡ length text → pieces text ≡ text ∷ []
one_piece text e = slice_split_none (λ b. b == between_leaves) text (λ k d l. fails_before_first (λ b. b == between_leaves) text k d (omega (arith, l, e)))

module _ (text front back : List ℕ) (n : ℕ) (at : n ≡ colon_place text) (within : n ≤ length text) (before : front ≡ take n text) (behind : back ≡ drop n text) where
  -- no colon stands in the text
  pub whole_piece : length back < 1 → pieces text ≡ front ∷ []
  whole_piece few =
      let long : length back ≡ length text - n = ap length behind ∙ length-drop n text in
      let all : n ≡ length text = omega arith in
      let same : front ≡ text = before ∙ take_all n text (omega arith) in
      one_piece text (sym at ∙ all) ∙ ap (λ (piece : List ℕ). piece ∷ []) (sym same)

  -- a colon stands there
  pub cut_piece : 1 ≤ length back → pieces text ≡ front ∷ pieces (take (length back - 1) (drop 1 back))
  cut_piece some =
      let long : length back ≡ length text - n = ap length behind ∙ length-drop n text in
      let lt : colon_place text < length text = omega arith in
      let all : take (length back - 1) (drop 1 back) ≡ drop 1 back = take_all (length back - 1) (drop 1 back) (omega (arith, length-drop 1 back)) in
      let rest : drop 1 back ≡ drop (colon_place text + 1) text = ap (drop 1) behind ∙ drop-drop 1 n text ∙ ap (λ (k : ℕ). drop (k + 1) text) at in
      let first : front ≡ take (colon_place text) text = before ∙ ap (λ (k : ℕ). take k text) at in
      slice_split_first (λ b. b == between_leaves) text 0 lt
      ∙ rw (first, all, rest) refl

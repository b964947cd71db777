-- The parts that are left from a number on, by what is found at that number.
use Rattle.std.proofs.{Common.{◌≡◌, ◌<◌, ℕ, zero, suc, ◌+◌, List, [], ◌∷◌, length, drop, Some, None, slice_get, refl, ap, ◌∙◌, arith}, lemmas.List.{drop_more}}
use Rattle.std.proofs.lemmas.Option.{get_or_from_slice_get, slice_get_within}

module _ {X : Type 0} where
  pub found_first : (xs : List X) (k : ℕ) (x : X) → slice_get xs k ≡ Some x → drop k xs ≡ x ∷ drop (k + 1) xs
  found_first xs k x found =
      drop_more xs k x (slice_get_within xs k x found) ∙ ap (λ (y : X). y ∷ drop (k + 1) xs) (get_or_from_slice_get xs k x x found)

  pub none_left : (xs : List X) (k : ℕ) → slice_get xs k ≡ None → drop k xs ≡ []
  none_left [] zero none = refl
  none_left [] (suc k) none = refl
  none_left (x ∷ xs) zero none = absurd cc
  none_left (x ∷ xs) (suc k) none = none_left xs k none

  -- where some are left, one is found
  pub some_left : (xs : List X) (k : ℕ) → k < length xs → (x : X) × (slice_get xs k ≡ Some x)
  some_left [] k lt = absurd (omega arith)
  some_left (x ∷ xs) zero lt = (x, refl)
  some_left (x ∷ xs) (suc k) lt = some_left xs k (omega (arith, lt))

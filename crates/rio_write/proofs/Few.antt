-- A list of so many items is the list of these.
use Rattle.std.proofs.Common.{◌≡◌, ◌<◌, ◌≤◌, List, [], ◌∷◌, length, slice_index_or, refl, sym, ap, arith}

module _ {X : Type 0} where
  pub one_is : (xs : List X) (a : X) → 1 ≤ length xs → length xs < 2 → a ≡ slice_index_or xs 0 a → xs ≡ a ∷ []
  one_is [] a le lt e = absurd (omega arith)
  one_is (x ∷ []) a le lt e = ap (λ (z : X). z ∷ []) (sym e)
  one_is (x ∷ y ∷ xs) a le lt e = absurd (omega arith)

  pub two_are : (xs : List X) (a b : X) → 2 ≤ length xs → length xs < 3 → a ≡ slice_index_or xs 0 a → b ≡ slice_index_or xs 1 b → xs ≡ a ∷ b ∷ []
  two_are [] a b le lt e f = absurd (omega arith)
  two_are (x ∷ []) a b le lt e f = absurd (omega arith)
  two_are (x ∷ y ∷ []) a b le lt e f = rw (e, f) refl
  two_are (x ∷ y ∷ z ∷ xs) a b le lt e f = absurd (omega arith)

  pub three_are : (xs : List X) (a b c : X) → 3 ≤ length xs → length xs < 4 → a ≡ slice_index_or xs 0 a → b ≡ slice_index_or xs 1 b → c ≡ slice_index_or xs 2 c → xs ≡ a ∷ b ∷ c ∷ []
  three_are [] a b c le lt e f g = absurd (omega arith)
  three_are (x ∷ []) a b c le lt e f g = absurd (omega arith)
  three_are (x ∷ y ∷ []) a b c le lt e f g = absurd (omega arith)
  three_are (x ∷ y ∷ z ∷ []) a b c le lt e f g = rw (e, f, g) refl
  three_are (x ∷ y ∷ z ∷ w ∷ xs) a b c le lt e f g = absurd (omega arith)

  pub four_are : (xs : List X) (a b c d : X) → 4 ≤ length xs → length xs < 5 → a ≡ slice_index_or xs 0 a → b ≡ slice_index_or xs 1 b → c ≡ slice_index_or xs 2 c → d ≡ slice_index_or xs 3 d → xs ≡ a ∷ b ∷ c ∷ d ∷ []
  four_are [] a b c d le lt e f g h = absurd (omega arith)
  four_are (x ∷ []) a b c d le lt e f g h = absurd (omega arith)
  four_are (x ∷ y ∷ []) a b c d le lt e f g h = absurd (omega arith)
  four_are (x ∷ y ∷ z ∷ []) a b c d le lt e f g h = absurd (omega arith)
  four_are (x ∷ y ∷ z ∷ w ∷ []) a b c d le lt e f g h = rw (e, f, g, h) refl
  four_are (x ∷ y ∷ z ∷ w ∷ v ∷ xs) a b c d le lt e f g h = absurd (omega arith)

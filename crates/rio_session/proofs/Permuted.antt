-- Of lists with the same elements in another order the same elements are kept.
use Rattle.std.proofs.Common.{◌≡◌, ℕ, zero, suc, ◌<◌, Bool, true, false, cond, List, [], ◌∷◌, length, get_or, set, refl, arith}
use Rattle.std.proofs.lemmas.List.Sorted.{IsPermutation-cons, IsPermutation-keeps, IsPermutation-middle, IsPermutation-refl, IsPermutation-trans}
use Rattle.std.specs.List.{filter, swap, Sorted.{IsPermutation}}

module _ {A : Type 0} (p : A → Bool) where
  -- the same elements of both are kept
  abbrev KeepSame : List A → List A → Type 0
  KeepSame xs ys = IsPermutation (filter p xs) (filter p ys)

  chain : (xs ys zs : List A) → KeepSame xs ys → KeepSame ys zs → KeepSame xs zs
  chain xs ys zs one two = IsPermutation-trans (filter p xs) (filter p ys) (filter p zs) one two

  skip : (x : A) (xs ys : List A) → KeepSame xs ys → KeepSame (x ∷ xs) (x ∷ ys)
  skip x xs ys same = by (p x)
    where
      by : (b : Bool) → IsPermutation (cond b (x ∷ filter p xs) (filter p xs)) (cond b (x ∷ filter p ys) (filter p ys))
      by true = IsPermutation-cons x (filter p xs) (filter p ys) same
      by false = same

  -- two elements, and those of the others that are kept
  abbrev with_two : List A → A → A → Bool → Bool → List A
  with_two xs a b c d = cond c (a ∷ cond d (b ∷ filter p xs) (filter p xs)) (cond d (b ∷ filter p xs) (filter p xs))

  turn : (x y : A) (xs : List A) → KeepSame (x ∷ y ∷ xs) (y ∷ x ∷ xs)
  turn x y xs = by (p x) (p y)
    where
      by : (c d : Bool) → IsPermutation (with_two xs x y c d) (with_two xs y x d c)
      by true true = IsPermutation-middle (x ∷ []) y (filter p xs)
      by true false = IsPermutation-refl (x ∷ filter p xs)
      by false true = IsPermutation-refl (y ∷ filter p xs)
      by false false = IsPermutation-refl (filter p xs)

  to_front : (l : List A) (j : ℕ) (x d : A) → j < length l → KeepSame (x ∷ l) (get_or l j d ∷ set l j x)
  to_front [] j x d low = absurd (omega (arith, low))
  to_front (y ∷ l) zero x d low = turn x y l
  to_front (y ∷ l) (suc j) x d low =
      let z = get_or l j d in
      let rest = set l j x in
      chain (x ∷ y ∷ l) (y ∷ x ∷ l) (z ∷ y ∷ rest) (turn x y l) (chain (y ∷ x ∷ l) (y ∷ z ∷ rest) (z ∷ y ∷ rest) (skip y (x ∷ l) (z ∷ rest) (to_front l j x d (omega (arith, low)))) (turn y z rest))

  exchanged : (l : List A) (i j : ℕ) (d : A) → i < length l → j < length l → KeepSame l (set (set l i (get_or l j d)) j (get_or l i d))
  exchanged [] i j d low low' = absurd (omega (arith, low))
  exchanged (x ∷ l) zero zero d low low' = IsPermutation-refl (filter p (x ∷ l))
  exchanged (x ∷ l) zero (suc j) d low low' = to_front l j x d (omega (arith, low'))
  exchanged (x ∷ l) (suc i) zero d low low' = to_front l i x d (omega (arith, low))
  exchanged (x ∷ l) (suc i) (suc j) d low low' = skip x l (set (set l i (get_or l j d)) j (get_or l i d)) (exchanged l i j d (omega (arith, low)) (omega (arith, low')))

  swapped : (l : List A) (i j : ℕ) → i < length l → j < length l → KeepSame l (swap l i j)
  swapped [] i j low low' = absurd (omega (arith, low))
  swapped (x ∷ l) i j low low' = exchanged (x ∷ l) i j x low low'

  pub filter_moved : (xs ys : List A) → IsPermutation xs ys → IsPermutation (filter p xs) (filter p ys)
  filter_moved xs ys moved = IsPermutation-keeps xs (KeepSame xs) (IsPermutation-refl (filter p xs)) (λ l i j low low' so. chain xs l (swap l i j) so (swapped l i j low low')) ys moved

-- A segment among others by its index.
use Rattle.std.proofs.Common.{◌≡◌, inl, inr, ℕ, zero, suc, ◌≤◌, Bool, true, false, cond, Result, Ok, Err, IsOk, is_ok, rules, List, [], ◌∷◌, ◌++◌, length, get_or, refl, ap, arith}
use Rattle.std.proofs.{lemmas.Bool.{cases_lt}, lemmas.List.Sums.{prefix_len-le-length, prefix_len_passes, prefix_len_stops}}
use Rattle.std.specs.List.{prefix_len, insert, remove, Sorted.{IsPartitionPoint}}

module _ {X : Type 0} where
  pub get_at : (front : List X) (x : X) (back : List X) (k : ℕ) (d : X) → k ≡ length front → get_or (front ++ x ∷ back) k d ≡ x
  get_at [] x back zero d is = refl
  get_at [] x back (suc k) d is = absurd (omega (arith, is))
  get_at (y ∷ front) x back zero d is = absurd (omega (arith, is))
  get_at (y ∷ front) x back (suc k) d is = get_at front x back k d (omega (arith, is))

  pub insert_at : (front back : List X) (k : ℕ) (y : X) → k ≡ length front → insert (front ++ back) k y ≡ front ++ y ∷ back
  insert_at [] back zero y is = refl
  insert_at [] back (suc k) y is = absurd (omega (arith, is))
  insert_at (z ∷ front) back zero y is = absurd (omega (arith, is))
  insert_at (z ∷ front) back (suc k) y is = ap (λ (l : List X). z ∷ l) (insert_at front back k y (omega (arith, is)))

  pub remove_at : (front : List X) (x : X) (back : List X) (k : ℕ) → k ≡ length front → remove (front ++ x ∷ back) k ≡ front ++ back
  remove_at [] x back zero is = refl
  remove_at [] x back (suc k) is = absurd (omega (arith, is))
  remove_at (y ∷ front) x back zero is = absurd (omega (arith, is))
  remove_at (y ∷ front) x back (suc k) is = ap (λ (l : List X). y ∷ l) (remove_at front x back k (omega (arith, is)))

  -- where the elements that pass a test end
  pub point_at : (p : X → Bool) (xs : List X) (d : X) (i : ℕ) → i ≤ length xs → IsPartitionPoint (λ x. p x ≡ true) (λ x. p x ≡ false) xs i → i ≡ prefix_len p xs
  point_at p xs d i le point =
      elim (cases_lt i (prefix_len p xs)) [
        | inl lt ↦ let yes = prefix_len_passes p xs i d lt in let no = point.1 i d (omega arith) (omega (arith, prefix_len-le-length p xs)) in absurd cc
        | inr ge ↦ elim (cases_lt (prefix_len p xs) i) [
          | inl lt ↦ let yes = point.0 (prefix_len p xs) d (omega arith) lt in let no = prefix_len_stops p xs d (omega arith) in absurd cc
          | inr same ↦ omega arith
        ]
      ]

-- what a call left that found room
pub kept_if_ok : {A E X : Type 0} (r : Result A E) (new one other : X) → IsOk r → new ≡ cond (is_ok r) one other → new ≡ one
kept_if_ok (Ok x) new one other ok is = is
kept_if_ok (Err e) new one other ok is = absurd (search rules)

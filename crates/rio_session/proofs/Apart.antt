-- Numbers that are apart, among as many others.
use Rattle.std.proofs.Common.{◌≡◌, ◌==◌, ◌||◌, ℕ, ◌≤◌, Bool, true, false, cond, List, [], ◌∷◌, length, refl, sym, ap, ◌∙◌, arith}
use Rattle.std.proofs.{lemmas.Bool.{eq-eqb, eqb-true, or_left, or_right}, lemmas.Map.Made.{length-remove_key}}
use Rattle.std.specs.{List.{list_any}, Set.{remove_key}}
use Rattle.rio_session.specs.Releases.{AreApart}

-- the number is one of these
abbrev pub is_among : List ℕ → ℕ → Bool
is_among ys p = list_any (λ y. y == p) ys

abbrev pub IsWithin : List ℕ → List ℕ → Type 0
IsWithin xs ys = (p : ℕ) → is_among xs p ≡ true → is_among ys p ≡ true

-- each but the one that is taken out stays
still_among : (x p : ℕ) (ys : List ℕ) → (x ≡ p → ⊥) → is_among ys p ≡ true → is_among (remove_key (λ y. y == x) ys) p ≡ true
still_among x p [] other e = absurd cc
still_among x p (y ∷ ys) other e = by (y == x) (y == p) refl refl e (still_among x p ys other)
  where
    by : (b c : Bool) → (y == x) ≡ b → (y == p) ≡ c → (c || is_among ys p) ≡ true → (is_among ys p ≡ true → is_among (remove_key (λ z. z == x) ys) p ≡ true)
        → is_among (cond b ys (y ∷ remove_key (λ z. z == x) ys)) p ≡ true
    by true true is at e rest = absurd (other (sym (eqb-true y x is) ∙ eqb-true y p at))
    by true false is at e rest = e
    by false true is at e rest = or_left (y == p) (is_among (remove_key (λ z. z == x) ys) p) at
    by false false is at e rest = or_right (y == p) (is_among (remove_key (λ z. z == x) ys) p) (rest e)

-- numbers that are apart are no more than those that they are among
pub no_more : (xs ys : List ℕ) → AreApart xs → IsWithin xs ys → length xs ≤ length ys
no_more [] ys apart within = omega arith
no_more (x ∷ xs) ys apart within =
    let left = no_more xs (remove_key (λ y. y == x) ys) apart.1 inside in
    let one = length-remove_key (λ y. y == x) ys (within x (or_left (x == x) (is_among xs x) (eq-eqb x x refl))) in
    omega (arith, left, one)
  where
    other : (p : ℕ) → is_among xs p ≡ true → x ≡ p → ⊥
    other p e same = let f : is_among xs x ≡ true = ap (is_among xs) same ∙ e in let g = apart.0 in cc

    inside : IsWithin xs (remove_key (λ y. y == x) ys)
    inside p e = still_among x p ys (other p e) (within p (or_right (x == p) (is_among xs p) e))

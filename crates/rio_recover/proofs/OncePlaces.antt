-- Places that stand once each, with more behind them and in another order.
use Rattle.std.proofs.Common.{◌≡◌, ◌∙◌, ℕ, ◌+◌, ◌<◌, ◌≤◌, List, [], ◌∷◌, ◌++◌, append_assoc, append-nil, length, Bool, true, false, cond, not, ◌&&◌, ◌||◌, ◌==◌, refl, sym, ap, subst, arith}
use Rattle.std.proofs.lemmas.{Bool.{and_parts, eq-eqb, eqb-true, not-true, or_parts}, List.{Sums.{sum_by-append, sum_by-cons}, Sorted.{sum_by-IsPermutation, list_any-IsPermutation}}}
use Rattle.std.specs.List.{count_by, list_any, Sorted.{IsPermutation}}
use Rattle.rio_state.specs.Trees.{are_named_once}
use Rattle.rio_recover.specs.Baskets.{AreOnce}

abbrev many : ℕ → List ℕ → ℕ
many p places = count_by (λ q. p == q) places

pub once_moved : (xs ys : List ℕ) → IsPermutation xs ys → AreOnce xs → AreOnce ys
once_moved xs ys moved once p =
    let same = sum_by-IsPermutation (λ q. cond (p == q) 1 0) xs ys moved in
    omega (arith, once p, same)

-- a place that isn't there is counted 0 times
none_many : (p : ℕ) (xs : List ℕ) → list_any (λ q. p == q) xs ≡ false → many p xs ≡ 0
none_many p [] e = refl
none_many p (x ∷ xs) e =
    let parts = or_parts (p == x) (list_any (λ q. p == q) xs) e in
    let here : ◌≡◌ {A = ℕ} (cond (p == x) 1 0) 0 = ap (λ (b : Bool). cond b 1 0) parts.0 in
    omega (arith, sum_by-cons (λ q. cond (p == q) 1 0) x xs, none_many p xs parts.1, here)

-- one more that isn't there
once_one : (xs : List ℕ) (x : ℕ) → list_any (λ q. x == q) xs ≡ false → AreOnce xs → AreOnce (x ∷ xs)
once_one xs x new once p = by (p == x) refl
  where
    by : (b : Bool) → (p == x) ≡ b → many p (x ∷ xs) ≤ 1
    by true e =
        let same : p ≡ x = eqb-true p x e in
        let none : many p xs ≡ 0 = none_many p xs (ap (λ (z : ℕ). list_any (λ q. z == q) xs) same ∙ new) in
        let here : ◌≡◌ {A = ℕ} (cond (p == x) 1 0) 1 = ap (λ (b : Bool). cond b 1 0) e in
        omega (arith, sum_by-cons (λ q. cond (p == q) 1 0) x xs, none, here)
    by false e =
        let here : ◌≡◌ {A = ℕ} (cond (p == x) 1 0) 0 = ap (λ (b : Bool). cond b 1 0) e in
        omega (arith, sum_by-cons (λ q. cond (p == q) 1 0) x xs, once p, here)

-- more of them, each named once
pub once_more : (others ps : List ℕ) → AreOnce others → are_named_once others ps ≡ true → AreOnce (others ++ ps)
once_more others [] once e = subst AreOnce (sym (append-nil others)) once
once_more others (x ∷ ps) once e =
    let parts = and_parts (not (list_any (λ q. x == q) others)) (are_named_once (x ∷ others) ps) e in
    let rest = once_more (x ∷ others) ps (once_one others x (not-true (list_any (λ q. x == q) others) parts.0) once) parts.1 in
    λ p.
    let a = rest p in
    omega (
      arith,
      a,
      sum_by-cons (λ q. cond (p == q) 1 0) x (others ++ ps),
      sum_by-append (λ q. cond (p == q) 1 0) others ps,
      sum_by-append (λ q. cond (p == q) 1 0) others (x ∷ ps),
      sum_by-cons (λ q. cond (p == q) 1 0) x ps,
    )

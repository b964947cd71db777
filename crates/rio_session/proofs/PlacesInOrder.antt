-- Places in order: which places there are tells their list where they rise.
use Rattle.std.proofs.Common.{◌≡◌, ◌∙◌, inl, inr, ℕ, zero, suc, ◌+◌, ◌<◌, ◌≤◌, ◌==◌, ◌||◌, ◌&&◌, Bool, true, false, cond, List, [], ◌∷◌, ◌++◌, length, get_or, nat_lt, refl, sym, ap, subst, arith}
use Rattle.std.proofs.lemmas.Bool.{and_from, and_parts, eq-eqb, eqb-true, lt-ltb, ltb-true, ne_eqb, or_left, or_parts, or_right}
use Rattle.std.proofs.lemmas.List.{Sums.{list_all-from_AllPass, sum_by-cons}}
use Rattle.std.proofs.lemmas.List.Sorted.{IsNonDecreasingBy-drop, IsNonDecreasingBy-from_sort, IsPermutation-cons, IsPermutation-middle, IsPermutation-refl, IsPermutation-sym, IsPermutation-trans, list_any-IsPermutation, sum_by-IsPermutation}
use Rattle.std.specs.{List.{filter, list_all, list_any, sum_by, Sorted.{IsNonDecreasingBy, IsPermutation, IsSortedByKey, IsStrictlyIncreasing}}, Prelude.{slice_index}, Ordering.{nat_cmp}, Set.{remove_key}}
use Rattle.rio_chain.specs.{Adjoining.{AreAdjacent, AreSegments}, declared.segment.Segment.{Segment, TheVariants.{Record, Gap}}}
use Rattle.rio_session.specs.{Kept.{places_among, record_places}, Releases.{AreApart}}
use Rattle.rio_session.proofs.{Apart.{IsWithin, is_among}, KeepsLess.{places_apart}}

own : (x : ℕ) (xs : List ℕ) → is_among (x ∷ xs) x ≡ true
own x xs = or_left (x == x) (is_among xs x) (eq-eqb x x refl)

-- ---- places that rise

pub Rises : List ℕ → Type 0
Rises [] = Unit {0}
Rises (x ∷ xs) = (list_all (nat_lt x) xs ≡ true) × Rises xs

above : (x p : ℕ) (xs : List ℕ) → list_all (nat_lt x) xs ≡ true → is_among xs p ≡ true → x < p
above x p [] all e = absurd cc
above x p (y ∷ ys) all e = by (y == p) refl e (above x p ys parts.1)
  where
    parts : (nat_lt x y ≡ true) × (list_all (nat_lt x) ys ≡ true)
    parts = and_parts (nat_lt x y) (list_all (nat_lt x) ys) all

    by : (b : Bool) → (y == p) ≡ b → (b || is_among ys p) ≡ true → (is_among ys p ≡ true → x < p) → x < p
    by true is f later = omega (arith, ltb-true x y parts.0, eqb-true y p is)
    by false is f later = later f

same_first : (x y : ℕ) (xs ys : List ℕ) → list_all (nat_lt x) xs ≡ true → list_all (nat_lt y) ys ≡ true → is_among (y ∷ ys) x ≡ true → is_among (x ∷ xs) y ≡ true → x ≡ y
same_first x y xs ys a b into back = by (y == x) (x == y) refl refl into back
  where
    by : (c d : Bool) → (y == x) ≡ c → (x == y) ≡ d → (c || is_among ys x) ≡ true → (d || is_among xs y) ≡ true → x ≡ y
    by true d is at e f = sym (eqb-true y x is)
    by false true is at e f = eqb-true x y at
    by false false is at e f = absurd (omega (arith, above y x ys b e, above x y xs a f))

-- what is in one rising list behind its first is in the other behind that
behind : (x y : ℕ) (xs ys : List ℕ) → x ≡ y → list_all (nat_lt x) xs ≡ true → IsWithin (x ∷ xs) (y ∷ ys) → IsWithin xs ys
behind x y xs ys same all into p e = by (y == p) refl (into p (or_right (x == p) (is_among xs p) e))
  where
    by : (b : Bool) → (y == p) ≡ b → (b || is_among ys p) ≡ true → is_among ys p ≡ true
    by true is f = absurd (omega (arith, above x p xs all e, eqb-true y p is, same))
    by false is f = f

pub rises_one : (xs ys : List ℕ) → Rises xs → Rises ys → IsWithin xs ys → IsWithin ys xs → xs ≡ ys
unfolding Rises
rises_one [] [] a b into back = refl
rises_one [] (y ∷ ys) a b into back = let e = back y (own y ys) in absurd cc
rises_one (x ∷ xs) [] a b into back = let e = into x (own x xs) in absurd cc
rises_one (x ∷ xs) (y ∷ ys) a b into back =
    let same = same_first x y xs ys a.0 b.0 (into x (own x xs)) (back y (own y ys)) in
    let rest = rises_one xs ys a.1 b.1 (behind x y xs ys same a.0 into) (behind y x ys xs (sym same) b.0 back) in
    λ i. same i ∷ rest i

pub rises_increase : (xs : List ℕ) → Rises xs → IsStrictlyIncreasing xs
unfolding Rises
rises_increase [] up k low = absurd (omega (arith, low))
rises_increase (x ∷ []) up k low = absurd (omega (arith, low))
rises_increase (x ∷ y ∷ ys) up zero low = ltb-true x y (and_parts (nat_lt x y) (list_all (nat_lt x) ys) up.0).0
rises_increase (x ∷ y ∷ ys) up (suc k) low =
    let one : suc (k + 1) ≡ suc k + 1 = omega arith in
    subst (λ (n : ℕ). slice_index (x ∷ y ∷ ys) (suc k) < slice_index (x ∷ y ∷ ys) n) one (rises_increase (y ∷ ys) up.1 k (omega (arith, low)))

-- ---- how often a place stands

abbrev one : Bool → ℕ
one b = cond b 1 0

abbrev one_if : ℕ → ℕ → ℕ
one_if p q = one (q == p)

one_is : (b c : Bool) → b ≡ c → one b ≡ one c
one_is b c is = ap one is

none_count : (p : ℕ) (xs : List ℕ) → is_among xs p ≡ false → sum_by (one_if p) xs ≡ 0
none_count p [] none = refl
none_count p (x ∷ xs) none =
    let parts = or_parts (x == p) (is_among xs p) none in
    sum_by-cons (one_if p) x xs ∙ (λ i. one (parts.0 i) + none_count p xs parts.1 i)

few : (xs : List ℕ) → AreApart xs → (p : ℕ) → sum_by (one_if p) xs ≤ 1
few [] apart p = omega arith
few (x ∷ xs) apart p = by (x == p) refl (few xs apart.1 p)
  where
    by : (b : Bool) → (x == p) ≡ b → sum_by (one_if p) xs ≤ 1 → sum_by (one_if p) (x ∷ xs) ≤ 1
    by true is rest =
        let none = none_count p xs (subst (λ (q : ℕ). is_among xs q ≡ false) (eqb-true x p is) apart.0) in
        omega (arith, sum_by-cons (one_if p) x xs, none, one_is (x == p) true is)
    by false is rest = omega (arith, sum_by-cons (one_if p) x xs, rest, one_is (x == p) false is)

some_count : (p : ℕ) (xs : List ℕ) → is_among xs p ≡ true → 1 ≤ sum_by (one_if p) xs
some_count p [] e = absurd cc
some_count p (x ∷ xs) e = by (x == p) refl e (some_count p xs)
  where
    by : (b : Bool) → (x == p) ≡ b → (b || is_among xs p) ≡ true → (is_among xs p ≡ true → 1 ≤ sum_by (one_if p) xs) → 1 ≤ sum_by (one_if p) (x ∷ xs)
    by true is f rest = omega (arith, sum_by-cons (one_if p) x xs, one_is (x == p) true is)
    by false is f rest = omega (arith, sum_by-cons (one_if p) x xs, rest f)

apart_by : (xs : List ℕ) → ((p : ℕ) → sum_by (one_if p) xs ≤ 1) → AreApart xs
apart_by [] least = tt
apart_by (x ∷ xs) least = (by (is_among xs x) refl, apart_by xs (λ p. omega (arith, least p, sum_by-cons (one_if p) x xs)))
  where
    by : (b : Bool) → is_among xs x ≡ b → b ≡ false
    by false is = refl
    by true is = absurd (omega (arith, least x, sum_by-cons (one_if x) x xs, some_count x xs is, one_is (x == x) true (eq-eqb x x refl)))

pub apart_moved : (xs ys : List ℕ) → IsPermutation xs ys → AreApart xs → AreApart ys
apart_moved xs ys moved apart = apart_by ys (λ p. omega (arith, few xs apart p, sum_by-IsPermutation (one_if p) xs ys moved))

pub within_moved : (xs ys : List ℕ) → IsPermutation xs ys → IsWithin xs ys
within_moved xs ys moved p e = sym (list_any-IsPermutation (λ q. q == p) xs ys moved) ∙ e

-- ---- lists in another order

taken_front : (x : ℕ) (ys : List ℕ) → is_among ys x ≡ true → IsPermutation ys (x ∷ remove_key (λ y. y == x) ys)
taken_front x [] e = absurd cc
taken_front x (y ∷ ys) e = by (y == x) refl e (taken_front x ys)
  where
    by : (b : Bool) → (y == x) ≡ b → (b || is_among ys x) ≡ true → (is_among ys x ≡ true → IsPermutation ys (x ∷ remove_key (λ z. z == x) ys)) → IsPermutation (y ∷ ys) (x ∷ cond b ys (y ∷ remove_key (λ z. z == x) ys))
    by true is f rest = subst (λ (z : ℕ). IsPermutation (z ∷ ys) (x ∷ ys)) (sym (eqb-true y x is)) (IsPermutation-refl (x ∷ ys))
    by false is f rest =
        IsPermutation-trans (y ∷ ys) (y ∷ x ∷ remove_key (λ z. z == x) ys) (x ∷ y ∷ remove_key (λ z. z == x) ys) (IsPermutation-cons y ys (x ∷ remove_key (λ z. z == x) ys) (rest f))
        (IsPermutation-middle (y ∷ []) x (remove_key (λ z. z == x) ys))

removed_apart : (x : ℕ) (ys : List ℕ) → AreApart ys → is_among ys x ≡ true → (is_among (remove_key (λ y. y == x) ys) x ≡ false) × AreApart (remove_key (λ y. y == x) ys)
removed_apart x ys apart e = let is = apart_moved ys (x ∷ remove_key (λ y. y == x) ys) (taken_front x ys e) apart in (is.0, is.1)

-- the same places, each once
pub moved_apart : (xs ys : List ℕ) → AreApart xs → AreApart ys → IsWithin xs ys → IsWithin ys xs → IsPermutation xs ys
moved_apart [] [] a b into back = IsPermutation-refl []
moved_apart [] (y ∷ ys) a b into back = let e = back y (own y ys) in absurd cc
moved_apart (x ∷ xs) ys a b into back =
    let there = into x (own x xs) in
    let front = taken_front x ys there in
    let left = removed_apart x ys b there in
    let rest = moved_apart xs (remove_key (λ y. y == x) ys) a.1 left.1
    (λ p e. in_rest p (x == p) refl (within_moved ys (x ∷ remove_key (λ y. y == x) ys) front p (into p (or_right (x == p) (is_among xs p) e))) e)
    (λ p e. in_back p (x == p) refl left.0 (back p (within_moved (x ∷ remove_key (λ y. y == x) ys) ys (IsPermutation-sym ys (x ∷ remove_key (λ y. y == x) ys) front) p (or_right (x == p) (is_among (remove_key (λ y. y == x) ys) p) e))) e) in
    IsPermutation-trans (x ∷ xs) (x ∷ remove_key (λ y. y == x) ys) ys (IsPermutation-cons x xs (remove_key (λ y. y == x) ys) rest) (IsPermutation-sym ys (x ∷ remove_key (λ y. y == x) ys) front)
  where
    in_rest : (p : ℕ) (b : Bool) → (x == p) ≡ b → (b || is_among (remove_key (λ y. y == x) ys) p) ≡ true → is_among xs p ≡ true → is_among (remove_key (λ y. y == x) ys) p ≡ true
    in_rest p true is e f = absurd (let g = subst (λ (q : ℕ). is_among xs q ≡ false) (eqb-true x p is) a.0 in let h : true ≡ false = sym f ∙ g in cc)
    in_rest p false is e f = e

    in_back : (p : ℕ) (b : Bool) → (x == p) ≡ b → is_among (remove_key (λ y. y == x) ys) x ≡ false → (b || is_among xs p) ≡ true → is_among (remove_key (λ y. y == x) ys) p ≡ true → is_among xs p ≡ true
    in_back p true is none e f = absurd (let g = subst (λ (q : ℕ). is_among (remove_key (λ y. y == x) ys) q ≡ false) (eqb-true x p is) none in let h : true ≡ false = sym f ∙ g in cc)
    in_back p false is none e f = e

-- ---- sorted places

not_at : (x : ℕ) (xs : List ℕ) (k d : ℕ) → is_among xs x ≡ false → k < length xs → x ≡ get_or xs k d → ⊥
not_at x [] k d none lt same = omega (arith, lt)
not_at x (y ∷ ys) zero d none lt same = let f = (or_parts (y == x) (is_among ys x) none).0 in let g : (y == x) ≡ true = eq-eqb y x (sym same) in let h : true ≡ false = sym g ∙ f in cc
not_at x (y ∷ ys) (suc k) d none lt same = not_at x ys k d (or_parts (y == x) (is_among ys x) none).1 (omega (arith, lt)) same

rises_up : (xs : List ℕ) → IsNonDecreasingBy (λ x. x) xs → AreApart xs → Rises xs
unfolding Rises
rises_up [] up apart = tt
rises_up (x ∷ xs) up apart = (
  list_all-from_AllPass (nat_lt x) xs (λ k d lt.
      let least = up zero (suc k) d (omega arith) (omega (arith, lt)) in
      let other = not_at x xs k d apart.0 lt in
      lt-ltb x (get_or xs k d) (strictly x (get_or xs k d) least other)),
  rises_up xs (IsNonDecreasingBy-drop (λ x. x) 1 (x ∷ xs) up) apart.1,
)
  where
    strictly : (a b : ℕ) → a ≤ b → (a ≡ b → ⊥) → a < b
    strictly a b least other = by (a == b) refl
      where
        by : (c : Bool) → (a == b) ≡ c → a < b
        by true is = absurd (other (eqb-true a b is))
        by false is = let differ : a ≡ b → ⊥ = other in omega (arith, least, differ)

-- ---- places of records

places_high : (p from : ℕ) (segments : List Segment) → AreAdjacent from segments → p < from → list_all (nat_lt p) (record_places segments) ≡ true
places_high p from [] are low = refl
places_high p from (Record q n ∷ segments) are low =
    and_from (nat_lt p q) (list_all (nat_lt p) (record_places segments)) (lt-ltb p q (omega (arith, are.0.there, low))) (places_high p (from + n) segments are.1 (omega (arith, low)))
places_high p from (Gap q n ∷ segments) are low = places_high p (from + n) segments are.1 (omega (arith, low))

places_rise : (from : ℕ) (segments : List Segment) → AreAdjacent from segments → Rises (record_places segments)
unfolding Rises
places_rise from [] are = tt
places_rise from (Record p n ∷ segments) are = (places_high p (from + n) segments are.1 (omega (arith, are.0.there, are.0.some)), places_rise (from + n) segments are.1)
places_rise from (Gap p n ∷ segments) are = places_rise (from + n) segments are.1

module _ (test : ℕ → Bool) where
  all_filter : (x : ℕ) (xs : List ℕ) → list_all (nat_lt x) xs ≡ true → list_all (nat_lt x) (filter test xs) ≡ true
  all_filter x [] all = refl
  all_filter x (y ∷ ys) all = by (test y) (all_filter x ys parts.1)
    where
      parts : (nat_lt x y ≡ true) × (list_all (nat_lt x) ys ≡ true)
      parts = and_parts (nat_lt x y) (list_all (nat_lt x) ys) all

      by : (b : Bool) → list_all (nat_lt x) (filter test ys) ≡ true → list_all (nat_lt x) (cond b (y ∷ filter test ys) (filter test ys)) ≡ true
      by true rest = and_from (nat_lt x y) (list_all (nat_lt x) (filter test ys)) parts.0 rest
      by false rest = rest

  rises_filter : (xs : List ℕ) → Rises xs → Rises (filter test xs)
  unfolding Rises
  rises_filter [] up = tt
  rises_filter (x ∷ xs) up = by (test x) (rises_filter xs up.1)
    where
      by : (b : Bool) → Rises (filter test xs) → Rises (cond b (x ∷ filter test xs) (filter test xs))
      by true rest = (all_filter x xs up.0, rest)
      by false rest = rest

  in_filtered : (p : ℕ) (xs : List ℕ) → is_among xs p ≡ true → test p ≡ true → is_among (filter test xs) p ≡ true
  in_filtered p [] e f = absurd cc
  in_filtered p (x ∷ xs) e f = by (x == p) (test x) refl refl e (in_filtered p xs)
    where
      by : (b c : Bool) → (x == p) ≡ b → test x ≡ c → (b || is_among xs p) ≡ true → (is_among xs p ≡ true → test p ≡ true → is_among (filter test xs) p ≡ true) → is_among (cond c (x ∷ filter test xs) (filter test xs)) p ≡ true
      by true true is at g rest = or_left (x == p) (is_among (filter test xs) p) is
      by true false is at g rest = absurd (let h : true ≡ false = sym f ∙ sym (ap test (eqb-true x p is)) ∙ at in cc)
      by false true is at g rest = or_right (x == p) (is_among (filter test xs) p) (rest g f)
      by false false is at g rest = rest g f

  filtered_in : (p : ℕ) (xs : List ℕ) → is_among (filter test xs) p ≡ true → (is_among xs p ≡ true) × (test p ≡ true)
  filtered_in p [] e = absurd cc
  filtered_in p (x ∷ xs) e = by (test x) refl e (filtered_in p xs)
    where
      by : (c : Bool) → test x ≡ c → is_among (cond c (x ∷ filter test xs) (filter test xs)) p ≡ true → (is_among (filter test xs) p ≡ true → (is_among xs p ≡ true) × (test p ≡ true)) → (is_among (x ∷ xs) p ≡ true) × (test p ≡ true)
      by false at g rest = let r = rest g in (or_right (x == p) (is_among xs p) r.0, r.1)
      by true at g rest = first (x == p) refl g
        where
          first : (b : Bool) → (x == p) ≡ b → (b || is_among (filter test xs) p) ≡ true → ((b || is_among xs p) ≡ true) × (test p ≡ true)
          first true is g = (refl, sym (ap test (eqb-true x p is)) ∙ at)
          first false is g = rest g

-- ---- places among those of records

module _ (places : List ℕ) (segments : List Segment) (shape : AreSegments segments) (apart : AreApart places) (within : IsWithin places (record_places segments)) where
  among_rise : Rises (places_among places segments)
  among_rise = rises_filter (is_among places) (record_places segments) (places_rise 100 segments shape.adjacent)

  into : IsWithin places (places_among places segments)
  into p e = in_filtered (is_among places) p (record_places segments) (within p e) e

  back : IsWithin (places_among places segments) places
  back p e = (filtered_in (is_among places) p (record_places segments) e).1

  rises_apart : (xs : List ℕ) → Rises xs → AreApart xs
  unfolding Rises
  rises_apart [] up = tt
  rises_apart (x ∷ xs) up = (by (is_among xs x) refl, rises_apart xs up.1)
    where
      by : (b : Bool) → is_among xs x ≡ b → b ≡ false
      by false is = refl
      by true is = absurd (omega (arith, above x x xs up.0 is))

  -- they are the same places in another order
  pub among_moved : IsPermutation places (places_among places segments)
  among_moved = moved_apart places (places_among places segments) apart (rises_apart (places_among places segments) among_rise) into back

  pub among_increase : IsStrictlyIncreasing (places_among places segments)
  among_increase = rises_increase (places_among places segments) among_rise

  pub among_apart : AreApart (places_among places segments)
  among_apart = rises_apart (places_among places segments) among_rise

  -- and so they are once they are sorted
  pub sorted_are : (sorted : List ℕ) → IsPermutation places sorted → IsSortedByKey (λ x. x) nat_cmp sorted → sorted ≡ places_among places segments
  sorted_are sorted moved up =
      let other = IsPermutation-sym places sorted moved in
      rises_one sorted (places_among places segments) (rises_up sorted (IsNonDecreasingBy-from_sort (λ x. x) sorted up) (apart_moved places sorted moved apart)) among_rise
      (λ p e. into p (within_moved sorted places other p e)) (λ p e. within_moved places sorted moved p (back p e))

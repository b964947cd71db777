-- Which basket holds an entry, by the first entries of the baskets.
use Rattle.std.proofs.Common.{◌≡◌, ℕ, zero, suc, ◌+◌, ◌-◌, ◌<◌, ◌≤◌, List, [], ◌∷◌, length, Bool, true, false, cond, leb, ltb, Option, Some, None, refl, sym, ap, ◌∙◌, slice_index_or, arith}
use Rattle.std.proofs.lemmas.Bool.{le-ltb, lt-ltb, le-leb, leb-true, leb-false}
use Rattle.std.specs.{Option.{option_map}, List.Sorted.{IsNonDecreasingBy}}
use Rattle.rio_tree.specs.{declared.basket_at.BasketAt.{BasketAt}, Index.{IsIndex, RisesFrom, counts_from}}
use Rattle.rio_entry.specs.Index.{basket_holding, holder}

-- how many baskets in front begin at the entry or before it
abbrev pub passed : List BasketAt → ℕ → ℕ
passed [] entry = 0
passed (b ∷ bs) entry = cond (leb b.first entry) (passed bs entry + 1) 0

one_more : (o : Option ℕ) (k : ℕ) → o ≡ Some k → option_map (λ j. j + 1) o ≡ Some (k + 1)
one_more o k e = ap (option_map (λ j. j + 1)) e

none_more : (o : Option ℕ) → o ≡ None → option_map (λ j. j + 1) o ≡ None
none_more o e = ap (option_map (λ j. j + 1)) e

-- ---- the basket

within_from : (first : ℕ) (bs : List BasketAt) (entries entry : ℕ) → RisesFrom first bs entries → first ≤ entry → entry < entries → holder (counts_from first bs entries) (entry - first) ≡ Some (passed bs entry)
within_from first [] entries entry rise le lt =
    let low : ltb (entry - first) (entries - first) ≡ true = lt-ltb _ _ (omega (arith, le, lt)) in
    rw low refl
within_from first (b ∷ bs) entries entry rise le lt = by (λ behind. within_from b.first bs entries entry rise.1 behind lt) (leb b.first entry) refl
  where
    by : (b.first ≤ entry → holder (counts_from b.first bs entries) (entry - b.first) ≡ Some (passed bs entry)) → (c : Bool) → leb b.first entry ≡ c → cond (ltb (entry - first) (b.first - first)) (Some 0) (option_map (λ k. k + 1) (holder (counts_from b.first bs entries) ((entry - first) - (b.first - first)))) ≡ Some (cond c (passed bs entry + 1) 0)
    by others false e =
        let before : entry < b.first = leb-false _ _ e in
        let low : ltb (entry - first) (b.first - first) ≡ true = lt-ltb _ _ (omega (arith, le, before)) in
        rw low refl
    by others true e =
        let behind : b.first ≤ entry = leb-true _ _ e in
        let high : ltb (entry - first) (b.first - first) ≡ false = le-ltb _ _ (omega (arith, le, behind)) in
        let same : (entry - first) - (b.first - first) ≡ entry - b.first = omega (arith, rise.0, behind) in
        let rest = others behind in
        rw (high, same) (one_more _ _ rest)

past_from : (first : ℕ) (bs : List BasketAt) (entries entry : ℕ) → RisesFrom first bs entries → first ≤ entry → entries ≤ entry → holder (counts_from first bs entries) (entry - first) ≡ None
past_from first [] entries entry rise le past =
    let high : ltb (entry - first) (entries - first) ≡ false = le-ltb _ _ (omega (arith, le, past)) in
    rw high refl
past_from first (b ∷ bs) entries entry rise le past =
    let last = last_from b.first bs entries rise.1 in
    let high : ltb (entry - first) (b.first - first) ≡ false = le-ltb _ _ (omega (arith, le, past, last)) in
    let same : (entry - first) - (b.first - first) ≡ entry - b.first = omega (arith, rise.0, last, past) in
    let rest = past_from b.first bs entries entry rise.1 (omega (arith, last, past)) past in
    rw (high, same) (none_more _ rest)
  where
    last_from : (at : ℕ) (more : List BasketAt) (entries : ℕ) → RisesFrom at more entries → at ≤ entries
    last_from at [] entries up = up
    last_from at (b ∷ more) entries up = let le = last_from b.first more entries up.1 in omega (arith, le, up.0)

pub holds : (baskets : List BasketAt) (entries entry : ℕ) → IsIndex baskets entries → entry < entries → basket_holding baskets entries entry ≡ Some (passed baskets entry - 1)
holds [] entries entry index lt = absurd (omega (arith, index, lt))
holds (b ∷ bs) entries entry index lt =
    let behind : leb b.first entry ≡ true = le-leb _ _ (omega (arith, index.0)) in
    let same : entry - b.first ≡ entry = omega (arith, index.0) in
    let own : passed (b ∷ bs) entry - 1 ≡ passed bs entry = ap (λ (c : Bool). cond c (passed bs entry + 1) 0 - 1) behind ∙ omega arith in
    let all = within_from b.first bs entries entry index.1 (omega (arith, index.0)) lt in
    ap (holder (counts_from b.first bs entries)) (sym same) ∙ all ∙ ap (λ (k : ℕ). let o : Option ℕ = Some k in o) (sym own)

pub none_holds : (baskets : List BasketAt) (entries entry : ℕ) → IsIndex baskets entries → entries ≤ entry → basket_holding baskets entries entry ≡ None
none_holds [] entries entry index past = refl
none_holds (b ∷ bs) entries entry index past =
    let same : entry - b.first ≡ entry = omega (arith, index.0) in
    let all = past_from b.first bs entries entry index.1 (omega (arith, index.0)) past in
    ap (holder (counts_from b.first bs entries)) (sym same) ∙ all

-- ---- the search

begins_at : (first : ℕ) (bs : List BasketAt) (entries : ℕ) → RisesFrom first bs entries → (j : ℕ) (d : BasketAt) → j < length bs → first ≤ (slice_index_or bs j d).first
begins_at first [] entries rise j d lt = absurd (omega (arith, lt))
begins_at first (b ∷ bs) entries rise zero d lt = omega (arith, rise.0)
begins_at first (b ∷ bs) entries rise (suc j) d lt = let le = begins_at b.first bs entries rise.1 j d (omega (arith, lt)) in omega (arith, le, rise.0)

rises : (b : BasketAt) (bs : List BasketAt) (entries : ℕ) → RisesFrom b.first bs entries → (i j : ℕ) (d : BasketAt) → i ≤ j → j < length (b ∷ bs) → (slice_index_or (b ∷ bs) i d).first ≤ (slice_index_or (b ∷ bs) j d).first
rises b bs entries rise zero zero d le lt = omega arith
rises b bs entries rise zero (suc j) d le lt = begins_at b.first bs entries rise j d (omega (arith, lt))
rises b bs entries rise (suc i) zero d le lt = absurd (omega (arith, le))
rises b [] entries rise (suc i) (suc j) d le lt = absurd (omega (arith, lt))
rises b (n ∷ bs) entries rise (suc i) (suc j) d le lt = rises n bs entries rise.1 i j d (omega (arith, le)) (omega (arith, lt))

pub firsts_rise : (baskets : List BasketAt) (entries : ℕ) → IsIndex baskets entries → IsNonDecreasingBy (λ b. b.first) baskets
firsts_rise [] entries index = λ i j d le lt. absurd (omega (arith, lt))
firsts_rise (b ∷ bs) entries index = rises b bs entries index.1

-- the place where a search by halves ends
pub search_ends : (bs : List BasketAt) (entry k : ℕ) → k ≤ length bs
    → ((j : ℕ) (d : BasketAt) → 0 ≤ j → j < k → leb (slice_index_or bs j d).first entry ≡ true)
    → ((j : ℕ) (d : BasketAt) → k ≤ j → j < length bs → leb (slice_index_or bs j d).first entry ≡ false)
    → passed bs entry ≡ k
search_ends [] entry k le front back = omega (arith, le)
search_ends (b ∷ bs) entry zero le front back = let e = back 0 b (omega arith) (omega arith) in ap (λ (c : Bool). cond c (passed bs entry + 1) 0) e
search_ends (b ∷ bs) entry (suc k) le front back =
    let e = front 0 b (omega arith) (omega arith) in
    let rest = search_ends bs entry k (omega (arith, le)) (λ j d low lt. front (suc j) d (omega arith) (omega (arith, lt))) (λ j d low lt. back (suc j) d (omega (arith, low)) (omega (arith, lt))) in
    ap (λ (c : Bool). cond c (passed bs entry + 1) 0) e ∙ omega (arith, rest)

pub one_passed : (baskets : List BasketAt) (entries entry : ℕ) → IsIndex baskets entries → entry < entries → 1 ≤ passed baskets entry
one_passed [] entries entry index lt = absurd (omega (arith, index, lt))
one_passed (b ∷ bs) entries entry index lt =
    let behind : leb b.first entry ≡ true = le-leb _ _ (omega (arith, index.0)) in
    let own : passed (b ∷ bs) entry ≡ passed bs entry + 1 = ap (λ (c : Bool). cond c (passed bs entry + 1) 0) behind in
    omega (arith, own)

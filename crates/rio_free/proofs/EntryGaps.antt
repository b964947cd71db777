-- The gaps of entries in order, given one after the other.
use Rattle.std.proofs.Common.{◌≡◌, inl, ℕ, zero, suc, ◌+◌, ◌-◌, ◌^◌, ◌<◌, ◌≤◌, Bool, true, false, cond, ltb, eqb, List, [], ◌∷◌, ◌++◌, length, get_or, take, Option, Some, refl, sym, ap, ◌∙◌, arith}
use Rattle.std.proofs.{lemmas.Bool.{ltb-true, lt-ltb, eqb-true, eq-eqb}, lemmas.List.{get_or-take, length-take, take_more}}
use Rattle.std.specs.List.{All}
use Rattle.rio_free.specs.{declared.entry.FreeEntry.{FreeEntry}, declared.gap.Gap.{Gap}, EntryList.{AreEntriesAbove, gap_of_entry, gaps_of, inner_entries}}
use Rattle.rio_free.specs.Gaps.{IsApart, gap_end, gap_of, given, joined}

-- ---- entries in order

pub in_order_at : (before : Option ℕ) (es : List FreeEntry) → AreEntriesAbove before es → (k : ℕ) (d : FreeEntry) → k < length es → (get_or es k d).first ≤ (get_or es k d).last
in_order_at before [] are k d lt = absurd (omega (arith, lt))
in_order_at before (e ∷ es) are zero d lt = are.1
in_order_at before (e ∷ es) are (suc k) d lt = in_order_at (Some e.last) es are.3 k d (omega arith)

later_above : (last : ℕ) (es : List FreeEntry) → AreEntriesAbove (Some last) es → (k : ℕ) (d : FreeEntry) → k < length es → last < (get_or es k d).first
later_above last [] are k d lt = absurd (omega (arith, lt))
later_above last (e ∷ es) are zero d lt = ltb-true _ _ are.0
later_above last (e ∷ es) are (suc k) d lt = omega (arith, ltb-true last e.first are.0, are.1, later_above e.last es are.3 k d (omega arith))

next_above : (before : Option ℕ) (es : List FreeEntry) → AreEntriesAbove before es → (k : ℕ) (d : FreeEntry) → suc k < length es → (get_or es k d).last < (get_or es (suc k) d).first
next_above before [] are k d lt = absurd (omega (arith, lt))
next_above before (e ∷ es) are zero d lt = later_above e.last es are.3 zero d (omega arith)
next_above before (e ∷ es) are (suc k) d lt = next_above (Some e.last) es are.3 k d (omega arith)

ends_fit_at : (before : Option ℕ) (es : List FreeEntry) → AreEntriesAbove before es → (k : ℕ) (d : FreeEntry) → k < length es → (get_or es k d).last < 2 ^ 64
ends_fit_at before [] are k d lt = absurd (omega (arith, lt))
ends_fit_at before (e ∷ es) are zero d lt = are.2
ends_fit_at before (e ∷ es) are (suc k) d lt = ends_fit_at (Some e.last) es are.3 k d (omega arith)

-- all but the last end below another
pub inner_fit : (before : Option ℕ) (es : List FreeEntry) → AreEntriesAbove before es → All (λ e. e.last + 1 < 2 ^ 64) (inner_entries es)
inner_fit before es are k d lt =
    let within : suc k < length es = omega (arith, lt, length-take (length es - 1) es) in
    let same : get_or (take (length es - 1) es) k d ≡ get_or es k d = get_or-take (length es - 1) es k d (omega (arith, within)) in
    rw same (omega (arith, next_above before es are k d within, in_order_at before es are (suc k) d within, ends_fit_at before es are (suc k) d within))

-- entries that end before a place
abbrev AreBelow : ℕ → List FreeEntry → Type 0
AreBelow place [] = Unit {0}
AreBelow place (e ∷ es) = (e.first ≤ e.last) × (e.last < place) × AreBelow place es

earlier_below : (before : Option ℕ) (es : List FreeEntry) → AreEntriesAbove before es → (k : ℕ) (d : FreeEntry) → k < length es → AreBelow (get_or es k d).first (take k es)
earlier_below before [] are k d lt = absurd (omega (arith, lt))
earlier_below before (e ∷ es) are zero d lt = tt
earlier_below before (e ∷ es) are (suc k) d lt = (are.1, later_above e.last es are.3 k d (omega arith), earlier_below (Some e.last) es are.3 k d (omega arith))

pub above_front : (before : Option ℕ) (es : List FreeEntry) (n : ℕ) → AreEntriesAbove before es → AreEntriesAbove before (take n es)
above_front before [] zero are = tt
above_front before [] (suc n) are = tt
above_front before (e ∷ es) zero are = tt
above_front before (e ∷ es) (suc n) are = (are.0, are.1, are.2, above_front (Some e.last) es n are.3)

-- ---- their gaps

-- gaps that end before a place
abbrev GapsBelow : ℕ → List Gap → Type 0
GapsBelow place [] = Unit {0}
GapsBelow place (g ∷ gaps) = (g.place < place) × (gap_end g ≤ place) × GapsBelow place gaps

joined_below : (place : ℕ) (g : Gap) (gaps : List Gap) → g.place < place → gap_end g ≤ place → GapsBelow place gaps → GapsBelow place (joined g gaps)
joined_below place g [] lt le below = (lt, le, tt)
joined_below place g (h ∷ gaps) lt le below = by (eqb (gap_end g) h.place) refl
  where
    by : (b : Bool) → eqb (gap_end g) h.place ≡ b → GapsBelow place (cond b (gap_of g.place (g.length + h.length) ∷ gaps) (g ∷ h ∷ gaps))
    by true e = (lt, omega (arith, eqb-true (gap_end g) h.place e, below.1), below.2)
    by false e = (lt, le, below)

gaps_below : (place : ℕ) (es : List FreeEntry) → AreBelow place es → GapsBelow place (gaps_of es)
gaps_below place [] below = tt
gaps_below place (e ∷ es) below = joined_below place (gap_of_entry e) (gaps_of es) (omega (arith, below.0, below.1)) (omega (arith, below.0, below.1)) (gaps_below place es below.2)

below_apart : (place n : ℕ) (gaps : List Gap) → GapsBelow place gaps → IsApart (gap_of place n) gaps
below_apart place n [] below k d lt = absurd (omega (arith, lt))
below_apart place n (g ∷ gaps) below zero d lt = inl below.1
below_apart place n (g ∷ gaps) below (suc k) d lt = below_apart place n gaps below.2 k d (omega arith)

-- a gap before one that it touches, which is joined with those behind it
joined_joined : (h x : Gap) (ys : List Gap) → gap_end h ≡ x.place → joined h (joined x ys) ≡ joined (gap_of h.place (h.length + x.length)) ys
joined_joined h x [] e = let same : eqb (gap_end h) x.place ≡ true = eq-eqb _ _ e in rw same refl
joined_joined h x (y ∷ ys) e =
    let end : h.place + (h.length + x.length) ≡ gap_end x = omega (arith, e) in
    by (eqb (gap_end x) y.place) (ap (λ (k : ℕ). eqb k y.place) end)
  where
    same : eqb (gap_end h) x.place ≡ true
    same = eq-eqb _ _ e

    by : (b : Bool) → eqb (h.place + (h.length + x.length)) y.place ≡ b → joined h (cond b (gap_of x.place (x.length + y.length) ∷ ys) (x ∷ y ∷ ys)) ≡ joined (gap_of h.place (h.length + x.length)) (y ∷ ys)
    by true f =
        let long : h.length + (x.length + y.length) ≡ h.length + x.length + y.length = omega arith in
        rw (same, f) (ap (λ (n : ℕ). gap_of h.place n ∷ ys) long)
    by false f = rw (same, f) refl

given_joined : (g h : Gap) (gaps : List Gap) → h.place < g.place → GapsBelow g.place gaps → given g (joined h gaps) ≡ joined h (given g gaps)
given_joined g h [] lt below = let earlier : ltb h.place g.place ≡ true = lt-ltb _ _ lt in rw earlier refl
given_joined g h (x ∷ xs) lt below = by (eqb (gap_end h) x.place) refl
  where
    earlier : ltb h.place g.place ≡ true
    earlier = lt-ltb _ _ lt

    next : ltb x.place g.place ≡ true
    next = lt-ltb _ _ below.0

    by : (b : Bool) → eqb (gap_end h) x.place ≡ b → given g (cond b (gap_of h.place (h.length + x.length) ∷ xs) (h ∷ x ∷ xs)) ≡ joined h (given g (x ∷ xs))
    by true e = rw (earlier, next) (sym (joined_joined h x (given g xs) (eqb-true _ _ e)))
    by false e = rw earlier refl

given_last : (e : FreeEntry) (es : List FreeEntry) → AreBelow e.first es → given (gap_of_entry e) (gaps_of es) ≡ gaps_of (es ++ e ∷ [])
given_last e [] below = refl
given_last e (f ∷ es) below =
    given_joined (gap_of_entry e) (gap_of_entry f) (gaps_of es) (omega (arith, below.0, below.1)) (gaps_below e.first es below.2)
    ∙ ap (joined (gap_of_entry f)) (given_last e es below.2)

-- ---- one more entry

module _ (before : Option ℕ) (es : List FreeEntry) (are : AreEntriesAbove before es) (k : ℕ) (d : FreeEntry) (lt : k < length es) where
  pub next_apart : IsApart (gap_of_entry (get_or es k d)) (gaps_of (take k es))
  next_apart = below_apart (get_or es k d).first ((get_or es k d).last - (get_or es k d).first + 1) (gaps_of (take k es)) (gaps_below (get_or es k d).first (take k es) (earlier_below before es are k d lt))

  pub next_given : given (gap_of_entry (get_or es k d)) (gaps_of (take k es)) ≡ gaps_of (take (k + 1) es)
  next_given = given_last (get_or es k d) (take k es) (earlier_below before es are k d lt) ∙ ap gaps_of (sym (take_more es k d lt))

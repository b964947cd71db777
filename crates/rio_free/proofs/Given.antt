-- What the gaps are once a range of bytes is given.
use Rattle.std.proofs.Common.{◌≡◌, ◌≢◌, inl, inr, ℕ, zero, suc, ◌+◌, ◌-◌, ◌^◌, ◌<◌, ◌≤◌, ◌||◌, Bool, true, false, cond, ltb, eqb, List, [], ◌∷◌, ◌++◌, length, get_or, set, take, drop, Option, None, Result, Ok, Err, IsOk, is_ok, rules, refl, ap, sym, subst, ◌∙◌, Some, arith}
use Rattle.std.proofs.{lemmas.Bool.{ltb-true, ltb-false, eq-eqb, ne_eqb, eqb-true, eqb-false, Decides.{nat_tests}}, Math.Numerals.{one-add}}
use Rattle.std.proofs.lemmas.List.{length-append, length-set, length-take, take-append-drop, drop_at, get_or-set_same, Sums.{prefix_len-le-length}}
use Rattle.std.proofs.lemmas.Option.{slice_get-get_or}
use Rattle.std.specs.List.{prefix_len, slice_get, insert, remove}
use Rattle.rio_free.specs.Gaps.{gap_of, gap_end, AreGaps, AreGapsFrom, IsApart, IsGapFrom, ends_before, is_free, length_at, lies_in, joined, given}
use Rattle.rio_free.specs.declared.gap.Gap.{Gap}
use Rattle.rio_free.proofs.Order.{start_of, from_lower, ends_fit}

-- ---- one gap before others

pub joined_are : (from : ℕ) (g : Gap) (gaps : List Gap) → IsGapFrom from g → AreGapsFrom (gap_end g) gaps → AreGapsFrom from (joined g gaps)
joined_are from g [] is are = (is, tt)
joined_are from g (h ∷ gaps) is are = by (eqb (gap_end g) h.place) refl
  where
    by : (b : Bool) → eqb (gap_end g) h.place ≡ b → AreGapsFrom from (cond b (gap_of g.place (g.length + h.length) ∷ gaps) (g ∷ h ∷ gaps))
    by true e =
        let touches : gap_end g ≡ h.place = eqb-true _ _ e in
        let end : g.place + (g.length + h.length) ≡ gap_end h = omega (arith, touches) in
        (record { behind = is.behind; some = omega (arith, is.some); fits = omega (arith, end, are.0.fits) }, subst (λ (k : ℕ). AreGapsFrom (k + 1) gaps) (sym end) are.1)
    by false e =
        let apart : gap_end g ≢ h.place = eqb-false _ _ e in
        (is, (record { behind = omega (arith, apart, are.0.behind); some = are.0.some; fits = are.0.fits }, are.1))

joined_free : (g : Gap) (gaps : List Gap) (byte : ℕ) → is_free (joined g gaps) byte ≡ (lies_in byte g || is_free gaps byte)
joined_free g [] byte = refl
joined_free g (h ∷ gaps) byte = by (eqb (gap_end g) h.place) refl
  where
    by : (b : Bool) → eqb (gap_end g) h.place ≡ b → is_free (cond b (gap_of g.place (g.length + h.length) ∷ gaps) (g ∷ h ∷ gaps)) byte ≡ (lies_in byte g || is_free (h ∷ gaps) byte)
    by true e = let touches : gap_end g ≡ h.place = eqb-true _ _ e in grind (arith, nat_tests)
    by false e = refl

-- a gap that doesn't touch one behind it, whatever that is joined with
joined_apart : (f h : Gap) (xs : List Gap) → gap_end f ≢ h.place → joined f (joined h xs) ≡ f ∷ joined h xs
joined_apart f h [] ne = let other : eqb (gap_end f) h.place ≡ false = ne_eqb _ _ ne in rw other refl
joined_apart f h (x ∷ xs) ne = by (eqb (gap_end h) x.place)
  where
    other : eqb (gap_end f) h.place ≡ false
    other = ne_eqb _ _ ne

    by : (b : Bool) → joined f (cond b (gap_of h.place (h.length + x.length) ∷ xs) (h ∷ x ∷ xs)) ≡ f ∷ cond b (gap_of h.place (h.length + x.length) ∷ xs) (h ∷ x ∷ xs)
    by true = rw other refl
    by false = rw other refl

-- where the gap behind goes out, if they touch
pub join_none : (g : Gap) (gaps : List Gap) (at : ℕ) → length_at (gap_end g) (slice_get gaps at) ≡ None → joined g (drop at gaps) ≡ g ∷ drop at gaps
join_none g [] zero e = refl
join_none g [] (suc at) e = refl
join_none g (h ∷ gaps) zero e = by (eqb (gap_end g) h.place) e
  where
    by : (b : Bool) → cond b (Some h.length) None ≡ None → cond b (gap_of g.place (g.length + h.length) ∷ gaps) (g ∷ h ∷ gaps) ≡ g ∷ h ∷ gaps
    by true e = absurd cc
    by false e = refl
join_none g (h ∷ gaps) (suc at) e = join_none g gaps at e

pub join_some : (g : Gap) (gaps : List Gap) (at l : ℕ) → length_at (gap_end g) (slice_get gaps at) ≡ Some l → (joined g (drop at gaps) ≡ gap_of g.place (g.length + l) ∷ drop (suc at) gaps) × (at < length gaps)
join_some g [] zero l e = absurd cc
join_some g [] (suc at) l e = absurd cc
join_some g (h ∷ gaps) zero l e = by (eqb (gap_end g) h.place) e
  where
    by : (b : Bool) → cond b (Some h.length) None ≡ Some l → (cond b (gap_of g.place (g.length + h.length) ∷ gaps) (g ∷ h ∷ gaps) ≡ gap_of g.place (g.length + l) ∷ gaps) × (0 < length (h ∷ gaps))
    by true e = let same : h.length ≡ l = cc in (ap (λ (k : ℕ). gap_of g.place (g.length + k) ∷ gaps) same, omega arith)
    by false e = absurd cc
join_some g (h ∷ gaps) (suc at) l e = let rest = join_some g gaps at l e in (rest.0, omega (arith, rest.1))

pub join_removed : (g : Gap) (gaps : List Gap) (at l : ℕ) → length_at (gap_end g) (slice_get gaps at) ≡ Some l → joined g (drop at gaps) ≡ gap_of g.place (g.length + l) ∷ drop at (remove gaps at)
join_removed g gaps at l e =
    let some = join_some g gaps at l e in
    some.0 ∙ ap (λ (t : List Gap). gap_of g.place (g.length + l) ∷ t) (sym (drop_at (take at gaps) (drop (suc at) gaps) at (omega (arith, length-take at gaps, some.1))))

-- the last of some gaps
abbrev last_of : Gap → List Gap → Gap
last_of f [] = f
last_of f (h ∷ fs) = last_of h fs

get_last : (f : Gap) (fs ys : List Gap) (d : Gap) → get_or ((f ∷ fs) ++ ys) (length fs) d ≡ last_of f fs
get_last f [] ys d = refl
get_last f (h ∷ fs) ys d = get_last h fs ys d

slice_last : (f : Gap) (fs ys : List Gap) → slice_get ((f ∷ fs) ++ ys) (length fs) ≡ Some (last_of f fs)
slice_last f [] ys = refl
slice_last f (h ∷ fs) ys = slice_last h fs ys

-- where the gap before an index ends
ends_is : (gaps : List Gap) (at : ℕ) (place : ℕ) (h : Gap) (b : Bool) → 0 < at → slice_get gaps (at - 1) ≡ Some h → ends_before gaps at place ≡ b → eqb (gap_end h) place ≡ b
ends_is gaps at place h b some got ends = let yes : ltb 0 at ≡ true = grind (arith, nat_tests) in rw (yes, got) at ends

pub ends_at : (gaps items : List Gap) (at place end : ℕ) (h : Gap) → items ≡ gaps → 0 < at → at - 1 < length items → h ≡ get_or items (at - 1) h → end ≡ gap_end h → eqb end place ≡ ends_before gaps at place
ends_at gaps items at place end h same some within read is =
    let yes : ltb 0 at ≡ true = grind (arith, nat_tests, some) in
    let got : slice_get items (at - 1) ≡ Some h = slice_get-get_or items (at - 1) h within ∙ ap (λ (k : Gap). let o : Option Gap = Some k in o) (sym read) in
    rw (← same, yes, got) (ap (λ (k : ℕ). eqb k place) is)

-- what an insert leaves that found room
pub inserted : {A E : Type 0} (r : Result A E) (new one other : List Gap) → IsOk r → new ≡ cond (is_ok r) one other → new ≡ one
inserted (Ok x) new one other ok is = is
inserted (Err e) new one other ok is = absurd (search rules)

-- ---- one gap among others

module _ (g : Gap) where
  abbrev pub starts_earlier : Gap → Bool
  starts_earlier h = ltb h.place g.place

  abbrev pub index : List Gap → ℕ
  index gaps = prefix_len starts_earlier gaps

  pub given_free : (gaps : List Gap) (byte : ℕ) → is_free (given g gaps) byte ≡ (is_free gaps byte || lies_in byte g)
  given_free [] byte = grind (arith, nat_tests)
  given_free (h ∷ gaps) byte = by (given_free gaps byte) (ltb h.place g.place)
    where
      by : is_free (given g gaps) byte ≡ (is_free gaps byte || lies_in byte g) → (b : Bool) → is_free (cond b (joined h (given g gaps)) (joined g (h ∷ gaps))) byte ≡ (is_free (h ∷ gaps) byte || lies_in byte g)
      by ih true = rw (joined_free h (given g gaps) byte, ih) (grind arith)
      by ih false = rw (joined_free g (h ∷ gaps) byte) (grind arith)

  -- the gaps are in order again
  pub given_are : (from : ℕ) (gaps : List Gap) → AreGapsFrom from gaps → IsGapFrom from g → IsApart g gaps → AreGapsFrom from (given g gaps)
  given_are from [] are is apart = (is, tt)
  given_are from (h ∷ gaps) are is apart = by (given_are (gap_end h) gaps (from_lower (gap_end h) (gap_end h + 1) gaps (omega arith) are.1)) (ltb h.place g.place) refl
    where
      by : (IsGapFrom (gap_end h) g → IsApart g gaps → AreGapsFrom (gap_end h) (given g gaps)) → (b : Bool) → ltb h.place g.place ≡ b → AreGapsFrom from (cond b (joined h (given g gaps)) (joined g (h ∷ gaps)))
      by ih true e =
          let earlier : h.place < g.place = ltb-true _ _ e in
          let end : gap_end h ≤ g.place = elim (apart 0 g (omega arith)) [ inl le ↦ le | inr le ↦ omega (arith, le, is.some) ] in
          joined_are from h (given g gaps) are.0 (ih (record { behind = end; some = is.some; fits = is.fits }) (λ k d lt. apart (suc k) d (omega (arith, lt))))
      by ih false e =
          let later : g.place ≤ h.place = ltb-false _ _ e in
          let end : gap_end g ≤ h.place = elim (apart 0 g (omega arith)) [ inl le ↦ omega (arith, le, are.0.some) | inr le ↦ le ] in
          joined_are from g (h ∷ gaps) is (record { behind = end; some = are.0.some; fits = are.0.fits }, are.1)

  -- ---- where it goes

  abbrev AreEarlier : List Gap → Type 0
  AreEarlier [] = Unit {0}
  AreEarlier (f ∷ fs) = (ltb f.place g.place ≡ true) × AreEarlier fs

  given_first : (gaps : List Gap) → index gaps ≡ 0 → given g gaps ≡ joined g gaps
  given_first [] none = refl
  given_first (h ∷ gaps) none = by (ltb h.place g.place) none
    where
      by : (b : Bool) → cond b (1 + index gaps) 0 ≡ 0 → cond b (joined h (given g gaps)) (joined g (h ∷ gaps)) ≡ joined g (h ∷ gaps)
      by true none = absurd (omega (arith, none))
      by false none = refl

  given_later : (f h : Gap) (rest : List Gap) → ltb f.place g.place ≡ true → ltb h.place g.place ≡ true → gap_end f ≢ h.place → given g (f ∷ h ∷ rest) ≡ f ∷ given g (h ∷ rest)
  given_later f h rest one two ne = rw (one, two) (joined_apart f h (given g rest) ne)

  module _ (back ys : List Gap) (x : Gap) (first : index back ≡ 0) (place : x.place ≡ g.place) (joins : joined g back ≡ x ∷ ys) where
    at_front : given g back ≡ x ∷ ys
    at_front = given_first back first ∙ joins

    touching : (f : Gap) → ltb f.place g.place ≡ true → gap_end f ≡ g.place → given g (f ∷ back) ≡ gap_of f.place (f.length + x.length) ∷ ys
    touching f earlier touches =
        let same : eqb (gap_end f) x.place ≡ true = eq-eqb _ _ (omega (arith, place, touches)) in
        rw (earlier, at_front, same) refl

    missing : (f : Gap) → ltb f.place g.place ≡ true → gap_end f ≢ g.place → given g (f ∷ back) ≡ f ∷ x ∷ ys
    missing f earlier misses =
        let other : eqb (gap_end f) x.place ≡ false = ne_eqb _ _ (λ e. misses (e ∙ place)) in
        rw (earlier, at_front, other) refl

    touches_last : (from : ℕ) (f : Gap) (fs : List Gap) → AreGapsFrom from ((f ∷ fs) ++ back) → AreEarlier (f ∷ fs) → gap_end (last_of f fs) ≡ g.place
        → given g ((f ∷ fs) ++ back) ≡ set ((f ∷ fs) ++ ys) (length fs) (gap_of (last_of f fs).place ((last_of f fs).length + x.length))
    touches_last from f [] are earlier touches = touching f earlier.0 touches
    touches_last from f (h ∷ fs) are earlier touches =
        given_later f h (fs ++ back) earlier.0 earlier.1.0 (λ e. omega (arith, e, are.1.0.behind))
        ∙ ap (λ (l : List Gap). f ∷ l) (touches_last (gap_end f + 1) h fs are.1 earlier.1 touches)

    misses_last : (from : ℕ) (f : Gap) (fs : List Gap) → AreGapsFrom from ((f ∷ fs) ++ back) → AreEarlier (f ∷ fs) → gap_end (last_of f fs) ≢ g.place → given g ((f ∷ fs) ++ back) ≡ (f ∷ fs) ++ x ∷ ys
    misses_last from f [] are earlier misses = missing f earlier.0 misses
    misses_last from f (h ∷ fs) are earlier misses =
        given_later f h (fs ++ back) earlier.0 earlier.1.0 (λ e. omega (arith, e, are.1.0.behind))
        ∙ ap (λ (l : List Gap). f ∷ l) (misses_last (gap_end f + 1) h fs are.1 earlier.1 misses)

    -- what the code does at the end of the gaps that begin earlier
    pub touched : (front : List Gap) (at : ℕ) → at ≡ length front → AreGaps (front ++ back) → AreEarlier front → ends_before (front ++ back) at g.place ≡ true → (p : Gap) → p ≡ get_or (front ++ ys) (at - 1) p
        → (0 < at) × (given g (front ++ back) ≡ set (front ++ ys) (at - 1) (gap_of p.place (p.length + x.length))) × (at - 1 < length (front ++ ys))
    touched [] at long are earlier ends p is = let none : ltb 0 at ≡ false = grind (arith, nat_tests, long) in absurd (cc)
    touched (f ∷ fs) at long are earlier ends p is =
        let m : at - 1 ≡ length fs = omega (arith, long) in
        let last : p ≡ last_of f fs = is ∙ ap (λ (k : ℕ). get_or ((f ∷ fs) ++ ys) k p) m ∙ get_last f fs ys p in
        let end : gap_end (last_of f fs) ≡ g.place = eqb-true _ _ (ends_is ((f ∷ fs) ++ back) at g.place (last_of f fs) true (omega (arith, long)) (ap (λ (k : ℕ). slice_get ((f ∷ fs) ++ back) k) m ∙ slice_last f fs back) ends) in
        let made = touches_last 0 f fs are earlier end in (
          omega (arith, long),
          made ∙ ap (λ (k : ℕ). set ((f ∷ fs) ++ ys) k (gap_of (last_of f fs).place ((last_of f fs).length + x.length))) (sym m) ∙ ap (λ (q : Gap). set ((f ∷ fs) ++ ys) (at - 1) (gap_of q.place (q.length + x.length))) (sym last),
          omega (arith, m, length-append fs ys),
        )

    pub missed : (front : List Gap) (at : ℕ) → at ≡ length front → AreGaps (front ++ back) → AreEarlier front → ends_before (front ++ back) at g.place ≡ false → given g (front ++ back) ≡ front ++ x ∷ ys
    missed [] at long are earlier ends = at_front
    missed (f ∷ fs) at long are earlier ends =
        let m : at - 1 ≡ length fs = omega (arith, long) in
        misses_last 0 f fs are earlier (eqb-false _ _ (ends_is ((f ∷ fs) ++ back) at g.place (last_of f fs) false (omega (arith, long)) (ap (λ (k : ℕ). slice_get ((f ∷ fs) ++ back) k) m ∙ slice_last f fs back) ends))

  -- ---- the gaps cut where it goes

  earlier_front : (gaps : List Gap) → AreEarlier (take (index gaps) gaps) × (index (drop (index gaps) gaps) ≡ 0)
  earlier_front [] = (tt, refl)
  earlier_front (h ∷ gaps) = by (earlier_front gaps) (ltb h.place g.place) refl
    where
      by : AreEarlier (take (index gaps) gaps) × (index (drop (index gaps) gaps) ≡ 0) → (b : Bool) → ltb h.place g.place ≡ b → AreEarlier (take (cond b (1 + index gaps) 0) (h ∷ gaps)) × (index (drop (cond b (1 + index gaps) 0) (h ∷ gaps)) ≡ 0)
      by ih true e = rw one-add ((e, ih.0), ih.1)
      by ih false e = (tt, rw e refl)

  joined_place : (gaps ys : List Gap) (x : Gap) → joined g gaps ≡ x ∷ ys → x.place ≡ g.place
  joined_place [] ys x e = let same : g ≡ x = cc in ap start_of (sym same)
  joined_place (h ∷ gaps) ys x e = by (eqb (gap_end g) h.place) e
    where
      by : (b : Bool) → cond b (gap_of g.place (g.length + h.length) ∷ gaps) (g ∷ h ∷ gaps) ≡ x ∷ ys → x.place ≡ g.place
      by true e = let same : gap_of g.place (g.length + h.length) ≡ x = cc in ap start_of (sym same)
      by false e = let same : g ≡ x = cc in ap start_of (sym same)

  -- what the code does, with the gap behind joined already
  pub record Giving (gaps : List Gap) (at : ℕ) (mid : List Gap) (x : Gap) : Type 0 where
    pub touched : ends_before gaps at g.place ≡ true → (p : Gap) → p ≡ get_or mid (at - 1) p → (given g gaps ≡ set mid (at - 1) (gap_of p.place (p.length + x.length))) × (0 < at) × (at - 1 < length mid)
    pub missed : ends_before gaps at g.place ≡ false → given g gaps ≡ insert mid at x

  pub giving : (gaps : List Gap) (at : ℕ) (mid : List Gap) (x : Gap) → AreGaps gaps → at ≡ index gaps → take at mid ≡ take at gaps → joined g (drop at gaps) ≡ x ∷ drop at mid → Giving gaps at mid x
  giving gaps at mid x are is front joins =
      let cut = earlier_front gaps in
      let whole : take at gaps ++ drop at gaps ≡ gaps = take-append-drop at gaps in
      let left : take at gaps ++ drop at mid ≡ mid = ap (λ (l : List Gap). l ++ drop at mid) (sym front) ∙ take-append-drop at mid in
      let long : at ≡ length (take at gaps) = omega (arith, is, length-take at gaps, prefix_len-le-length starts_earlier gaps) in
      let earlier : AreEarlier (take at gaps) = subst (λ (k : ℕ). AreEarlier (take k gaps)) (sym is) cut.0 in
      let first : index (drop at gaps) ≡ 0 = subst (λ (k : ℕ). index (drop k gaps) ≡ 0) (sym is) cut.1 in
      let place : x.place ≡ g.place = joined_place (drop at gaps) (drop at mid) x joins in
      let whole_are : AreGaps (take at gaps ++ drop at gaps) = subst AreGaps (sym whole) are in
      record {
        touched = λ ends p read.
            let t = touched (drop at gaps) (drop at mid) x first place joins (take at gaps) at long whole_are earlier (subst (λ (l : List Gap). ends_before l at g.place ≡ true) (sym whole) ends) p (subst (λ (l : List Gap). p ≡ get_or l (at - 1) p) (sym left) read) in
            (ap (given g) (sym whole) ∙ t.1 ∙ ap (λ (l : List Gap). set l (at - 1) (gap_of p.place (p.length + x.length))) left, t.0, subst (λ (l : List Gap). at - 1 < length l) left t.2);
        missed = λ ends.
            ap (given g) (sym whole) ∙ missed (drop at gaps) (drop at mid) x first place joins (take at gaps) at long whole_are earlier (subst (λ (l : List Gap). ends_before l at g.place ≡ false) (sym whole) ends)
            ∙ ap (λ (l : List Gap). l ++ x ∷ drop at mid) (sym front);
      }

  -- the same where the gaps are those of the code
  pub record Gives (gaps : List Gap) (at : ℕ) (mid : List Gap) (x : Gap) : Type 0 where
    pub touched : ends_before gaps at g.place ≡ true → (p : Gap) → p ≡ get_or mid (at - 1) p → set mid (at - 1) (gap_of p.place (p.length + x.length)) ≡ given g gaps
    pub fits : ends_before gaps at g.place ≡ true → (p : Gap) → p ≡ get_or mid (at - 1) p → p.length + x.length < 2 ^ 64
    pub missed : ends_before gaps at g.place ≡ false → insert mid at x ≡ given g gaps
    pub are : AreGaps (given g gaps)
    pub free : (byte : ℕ) → is_free (given g gaps) byte ≡ (is_free gaps byte || lies_in byte g)

  pub gives : (gaps items : List Gap) (at : ℕ) (mid : List Gap) (x : Gap) → items ≡ gaps → AreGaps items → at ≡ index gaps → take at mid ≡ take at items → joined g (drop at items) ≡ x ∷ drop at mid → IsGapFrom 0 g → IsApart g gaps → Gives gaps at mid x
  gives gaps items at mid x same are is front joins whole apart =
      let ordered : AreGaps gaps = subst AreGaps same are in
      let giving : Giving gaps at mid x = giving gaps at mid x ordered is (front ∙ ap (take at) same) (ap (λ (l : List Gap). joined g (drop at l)) (sym same) ∙ joins) in
      let after : AreGaps (given g gaps) = given_are 0 gaps ordered whole apart in
      record {
        touched = λ ends p read. sym (giving.touched ends p read).0;
        fits = λ ends p read.
            let t = giving.touched ends p read in
            let whole : Gap = gap_of p.place (p.length + x.length) in
            let there : get_or (given g gaps) (at - 1) p ≡ whole = ap (λ (l : List Gap). get_or l (at - 1) p) t.0 ∙ get_or-set_same mid (at - 1) whole p t.2 in
            let within : at - 1 < length (given g gaps) = omega (arith, t.2, ap length t.0, length-set mid (at - 1) whole) in
            let end : gap_end whole < 2 ^ 64 = subst (λ (h : Gap). gap_end h < 2 ^ 64) there (ends_fit 0 (given g gaps) after (at - 1) p within) in
            omega (arith, end);
        missed = λ ends. sym (giving.missed ends);
        are = after;
        free = given_free gaps;
      }

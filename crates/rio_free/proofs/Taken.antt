-- What is left once the front of a gap is taken.
use Rattle.std.proofs.Common.{◌≡◌, ◌≢◌, ◌⊎◌, inl, inr, ℕ, zero, suc, ◌+◌, ◌-◌, ◌^◌, ◌<◌, ◌≤◌, ◌&&◌, not, Bool, true, false, cond, ltb, eqb, List, [], ◌∷◌, ◌++◌, length, get_or, set, take, drop, refl, ap, sym, subst, ◌∙◌, arith}
use Rattle.std.proofs.{lemmas.Bool.{eq-eqb, ne_eqb, Decides.{nat_tests}}, lemmas.List.{set_split}}
use Rattle.std.specs.List.{prefix_len, remove}
use Rattle.rio_free.specs.{Gaps.{gap_of, gap_end, AreGaps, AreGapsFrom, HasGapFor, IsFitFor, is_free, lies_in, left_from, taken}, declared.gap.Gap.{Gap}}
use Rattle.rio_free.proofs.Order.{start_of, from_lower, gap_behind, free_behind}

module _ (place n : ℕ) where
  abbrev pub starts_before : Gap → Bool
  starts_before g = ltb g.place place

  -- the gap at the place, and what is taken of it
  pub record IsTakenAt (gaps : List Gap) (at : ℕ) : Type 0 where
    pub inside : at < length gaps
    pub here : (d : Gap) → start_of (get_or gaps at d) ≡ place
    pub fit : (d : Gap) → IsFitFor n (get_or gaps at d)
    pub fits : (d : Gap) → gap_end (get_or gaps at d) < 2 ^ 64
    pub is : (d : Gap) → taken place n gaps ≡ take at gaps ++ left_from (place + n) ((get_or gaps at d).length - n) (drop (suc at) gaps)

  -- the gap is the first one, or among those behind it
  pub has_here : (from : ℕ) (g : Gap) (gaps : List Gap) → AreGapsFrom from (g ∷ gaps) → HasGapFor (g ∷ gaps) place n → ((g.place ≡ place) × IsFitFor n g) ⊎ ((g.place < place) × HasGapFor gaps place n)
  has_here from g gaps are (zero, x, lt, is, fits) = inl (subst (λ (h : Gap). (h.place ≡ place) × IsFitFor n h) (sym is) fits)
  has_here from g gaps are (suc k, x, lt, is, fits) =
      let more : HasGapFor gaps place n = (k, x, omega (arith, lt), is, fits) in
      let behind : gap_end g + 1 ≤ place = gap_behind (gap_end g + 1) gaps place n are.1 more in
      inr (omega (arith, behind), more)

  pub taken_at : (from : ℕ) (gaps : List Gap) → AreGapsFrom from gaps → HasGapFor gaps place n → IsTakenAt gaps (prefix_len starts_before gaps)
  taken_at from [] are (k, x, lt, is, fits) = absurd (omega (arith, lt))
  taken_at from (g ∷ gaps) are has =
      elim (has_here from g gaps are has) [
        | inl here ↦
            let no : ltb g.place place ≡ false = grind (arith, nat_tests, here.0) in
            let same : eqb g.place place ≡ true = eq-eqb _ _ here.0 in
            rw no (record { inside = omega arith; here = λ d. here.0; fit = λ d. here.1; fits = λ d. are.0.fits; is = λ d. rw same refl })
        | inr more ↦
            let yes : ltb g.place place ≡ true = grind (arith, nat_tests, more.0) in
            let other : eqb g.place place ≡ false = ne_eqb _ _ (omega (arith, more.0)) in
            let ih = taken_at (gap_end g + 1) gaps are.1 more.1 in
            let made : IsTakenAt (g ∷ gaps) (suc (prefix_len starts_before gaps)) = record {
              inside = omega (arith, ih.inside);
              here = ih.here;
              fit = ih.fit;
              fits = ih.fits;
              is = λ d. rw other (ap (λ (t : List Gap). g ∷ t) (ih.is d));
            } in
            rw yes (subst (IsTakenAt (g ∷ gaps)) (omega arith) made)
      ]

  left_are : (from : ℕ) (g : Gap) (gaps : List Gap) → AreGapsFrom from (g ∷ gaps) → g.place ≡ place → IsFitFor n g → (b : Bool) → eqb (g.length - n) 0 ≡ b → AreGapsFrom from (cond b gaps (gap_of (place + n) (g.length - n) ∷ gaps))
  left_are from g gaps are here fit true e = from_lower from (gap_end g + 1) gaps (omega (arith, are.0.behind)) are.1
  left_are from g gaps are here fit false e =
      let some : 0 < g.length - n = grind (arith, nat_tests) in
      let more : place + n + (g.length - n) ≡ gap_end g = omega (arith, some, here) in
      (record { behind = omega (arith, are.0.behind, here); some = some; fits = omega (arith, more, are.0.fits) }, subst (λ (k : ℕ). AreGapsFrom (k + 1) gaps) (sym more) are.1)

  pub taken_are : (from : ℕ) (gaps : List Gap) → AreGapsFrom from gaps → HasGapFor gaps place n → AreGapsFrom from (taken place n gaps)
  taken_are from [] are has = tt
  taken_are from (g ∷ gaps) are has =
      elim (has_here from g gaps are has) [
        | inl here ↦ let same : eqb g.place place ≡ true = eq-eqb _ _ here.0 in rw same (left_are from g gaps are here.0 here.1 _ refl)
        | inr more ↦
            let other : eqb g.place place ≡ false = ne_eqb _ _ (omega (arith, more.0)) in
            rw other (are.0, taken_are (gap_end g + 1) gaps are.1 more.1)
      ]

  -- which bytes are free then
  abbrev Keeps : List Gap → ℕ → Type 0
  Keeps gaps byte = is_free (taken place n gaps) byte ≡ (is_free gaps byte && not (lies_in byte (gap_of place n)))

  left_free : (from : ℕ) (g : Gap) (gaps : List Gap) (byte : ℕ) → AreGapsFrom from (g ∷ gaps) → g.place ≡ place → IsFitFor n g → (b : Bool) → eqb (g.length - n) 0 ≡ b
      → is_free (cond b gaps (gap_of (place + n) (g.length - n) ∷ gaps)) byte ≡ (is_free (g ∷ gaps) byte && not (lies_in byte (gap_of place n)))
  left_free from g gaps byte are here fit true e = grind (arith, nat_tests, free_behind (gap_end g + 1) gaps byte are.1)
  left_free from g gaps byte are here fit false e = grind (arith, nat_tests, free_behind (gap_end g + 1) gaps byte are.1)

  pub taken_free : (from : ℕ) (gaps : List Gap) (byte : ℕ) → AreGapsFrom from gaps → HasGapFor gaps place n → Keeps gaps byte
  taken_free from [] byte are has = refl
  taken_free from (g ∷ gaps) byte are has =
      elim (has_here from g gaps are has) [
        | inl here ↦ let same : eqb g.place place ≡ true = eq-eqb _ _ here.0 in rw same (left_free from g gaps byte are here.0 here.1 _ refl)
        | inr more ↦
            let other : eqb g.place place ≡ false = ne_eqb _ _ (omega (arith, more.0)) in
            let ih = taken_free (gap_end g + 1) gaps byte are.1 more.1 in
            let apart : gap_end g + 1 ≤ place = gap_behind (gap_end g + 1) gaps place n are.1 more.1 in
            rw (other, ih) (grind (arith, nat_tests, apart))
      ]

-- What the code does at the place where its search ends: it takes the gap out, or sets it to its rest.
pub record Taking (place n : ℕ) (gaps items : List Gap) (at : ℕ) : Type 0 where
  pub inside : at < length items
  pub fits : (d : Gap) → d ≡ get_or items at d → place + n < 2 ^ 64
  pub short : (d : Gap) → d ≡ get_or items at d → n ≤ d.length
  pub removed : (d : Gap) → d ≡ get_or items at d → d.length ≡ n → remove items at ≡ taken place n gaps
  pub set : (d : Gap) → d ≡ get_or items at d → d.length ≢ n → set items at (gap_of (place + n) (d.length - n)) ≡ taken place n gaps
  pub are : AreGaps (taken place n gaps)
  pub free : (byte : ℕ) → is_free (taken place n gaps) byte ≡ (is_free gaps byte && not (lies_in byte (gap_of place n)))

taking_here : (place n : ℕ) (gaps : List Gap) (at : ℕ) → AreGaps gaps → HasGapFor gaps place n → at ≡ prefix_len (starts_before place n) gaps → Taking place n gaps gaps at
taking_here place n gaps at are has is =
    let here : IsTakenAt place n gaps at = subst (IsTakenAt place n gaps) (sym is) (taken_at place n 0 gaps are has) in
    record {
      inside = here.inside;
      fits = λ d e. omega (arith, here.here d, here.fit d, here.fits d);
      short = λ d e. omega (arith, ap (λ (g : Gap). g.length) e, here.fit d);
      removed = λ d e same.
          let none : eqb ((get_or gaps at d).length - n) 0 ≡ true = eq-eqb _ _ (omega (arith, ap (λ (g : Gap). g.length) e, same)) in
          sym (here.is d ∙ rw none refl);
      set = λ d e other.
          let long : d.length ≡ (get_or gaps at d).length = ap (λ (g : Gap). g.length) e in
          let some : eqb ((get_or gaps at d).length - n) 0 ≡ false = ne_eqb _ _ (omega (arith, long, other, here.fit d)) in
          ap (λ (k : ℕ). set gaps at (gap_of (place + n) (k - n))) long ∙ sym (here.is d ∙ rw some (sym (set_split gaps at _ here.inside)));
      are = taken_are place n 0 gaps are has;
      free = λ byte. taken_free place n 0 gaps byte are has;
    }

pub taking : (place n : ℕ) (gaps items : List Gap) (at : ℕ) → items ≡ gaps → AreGaps items → HasGapFor gaps place n → at ≡ prefix_len (starts_before place n) gaps → Taking place n gaps items at
taking place n gaps items at same are has is =
    subst (λ (l : List Gap). Taking place n gaps l at) (sym same) (taking_here place n gaps at (subst AreGaps same are) has is)

-- What is recovered and cleaned can be closed, whatever its host tells.
use Rattle.std.proofs.Common.{◌≡◌, ◌∙◌, ℕ, ◌+◌, ◌<◌, ◌≤◌, Bool, true, false, cond, not, ◌==◌, ◌||◌, List, [], ◌∷◌, map, length, refl, sym, ap, subst, arith}
use Rattle.std.proofs.lemmas.Bool.{and_from, and_parts, eq-eqb, eqb-true, ne_eqb, or_parts}
use Rattle.std.specs.List.{filter, fold, list_all, list_any}
use Rattle.rio_key.specs.declared.head.KeyHead.{KeyHead}
use Rattle.rio_chain.specs.{Adjoining.{AreAdjacent}, Placing.{record_count}, Releasing.{with_free, without_segment}, declared.segment.Segment.{Segment, TheVariants.{Record, Gap}}}
use Rattle.rio_chain.specs.Keyed.{AreKeyed}
use Rattle.rio_recover.specs.{Cleaning.{AreRising, without_segments}, Closable.{begins_at, is_placed}, Keys.{HeadsRise}}

-- ---- keys that rise by place

abbrev pub IsPlaced : (ℕ → ℕ → KeyHead → Type 0) → Type 0
IsPlaced P = (place n : ℕ) (head : KeyHead) → P place n head → head.seek ≡ place

pub rise_later : (p q : ℕ) (heads : List KeyHead) → p ≤ q → HeadsRise q heads → HeadsRise p heads
rise_later p q [] le rise = tt
rise_later p q (h ∷ heads) le rise = (omega (arith, le, rise.0), rise.1)

-- the key without the first at a place
abbrev pub without_head : ℕ → List KeyHead → List KeyHead
without_head place [] = []
without_head place (h ∷ heads) = cond (h.seek == place) heads (h ∷ without_head place heads)

abbrev pub without_heads : List ℕ → List KeyHead → List KeyHead
without_heads places heads = fold (λ hs p. without_head p hs) heads places

module _ (P : ℕ → ℕ → KeyHead → Type 0) (placed : IsPlaced P) where
  pub rises : (p : ℕ) (segments : List Segment) (heads : List KeyHead) → AreAdjacent p segments → AreKeyed P segments heads → HeadsRise p heads
  rises p [] [] are keyed = tt
  rises p [] (h ∷ heads) are keyed = absurd keyed
  rises p (Record q n ∷ segments) [] are keyed = absurd keyed
  rises p (Record q n ∷ segments) (h ∷ heads) are keyed =
      let at = placed q n h keyed.0 in
      let rest = rises (p + n) segments heads are.1 keyed.1 in
      (omega (arith, at, are.0.there), rise_later (h.seek + 1) (p + n) heads (omega (arith, at, are.0.there, are.0.some)) rest)
  rises p (Gap q n ∷ segments) heads are keyed = rise_later p (p + n) heads (omega arith) (rises (p + n) segments heads are.1 keyed)

  -- ---- one record less

  free_keyed : (place n : ℕ) (segments : List Segment) (heads : List KeyHead) → AreKeyed P segments heads → AreKeyed P (with_free place n segments) heads
  free_keyed place n [] heads keyed = keyed
  free_keyed place n (Record p m ∷ segments) heads keyed = keyed
  free_keyed place n (Gap p m ∷ segments) heads keyed = keyed

  pub keyed_without : (place : ℕ) (segments : List Segment) (heads : List KeyHead) → AreKeyed P segments heads → AreKeyed P (without_segment place segments) (without_head place heads)
  keyed_without place [] [] keyed = tt
  keyed_without place [] (h ∷ heads) keyed = absurd keyed
  keyed_without place (Record p n ∷ segments) [] keyed = absurd keyed
  keyed_without place (Record p n ∷ segments) (h ∷ heads) keyed =
      let at = placed p n h keyed.0 in
      subst (λ (b : Bool). AreKeyed P (cond (p == place) (with_free p n segments) (Record p n ∷ without_segment place segments)) (cond b heads (h ∷ without_head place heads))) (ap (λ (q : ℕ). q == place) (sym at))
      (by (p == place) (keyed_without place segments heads keyed.1))
    where
      by : (b : Bool) → AreKeyed P (without_segment place segments) (without_head place heads)
          → AreKeyed P (cond b (with_free p n segments) (Record p n ∷ without_segment place segments)) (cond b heads (h ∷ without_head place heads))
      by true rest = free_keyed p n segments heads keyed.1
      by false rest = (keyed.0, rest)
  keyed_without place (Gap p n ∷ segments) heads keyed = free_keyed p n (without_segment place segments) (without_head place heads) (keyed_without place segments heads keyed)

  pub keyed_left : (places : List ℕ) (segments : List Segment) (heads : List KeyHead) → AreKeyed P segments heads → AreKeyed P (without_segments places segments) (without_heads places heads)
  keyed_left [] segments heads keyed = keyed
  keyed_left (p ∷ places) segments heads keyed = keyed_left places (without_segment p segments) (without_head p heads) (keyed_without p segments heads keyed)

  -- ---- where records begin, and how many there are

  pub keyed_count : (segments : List Segment) (heads : List KeyHead) → AreKeyed P segments heads → record_count segments ≡ length heads
  keyed_count [] [] keyed = refl
  keyed_count [] (h ∷ heads) keyed = absurd keyed
  keyed_count (Record p n ∷ segments) [] keyed = absurd keyed
  keyed_count (Record p n ∷ segments) (h ∷ heads) keyed = omega (arith, keyed_count segments heads keyed.1)
  keyed_count (Gap p n ∷ segments) heads keyed = keyed_count segments heads keyed

  -- each key's record is there
  pub keyed_there : (segments : List Segment) (heads : List KeyHead) → AreKeyed P segments heads → list_all (is_placed segments) heads ≡ true
  keyed_there [] [] keyed = refl
  keyed_there [] (h ∷ heads) keyed = absurd keyed
  keyed_there (Record p n ∷ segments) [] keyed = absurd keyed
  keyed_there (Record p n ∷ segments) (h ∷ heads) keyed =
      and_from _ _ (ap (λ (b : Bool). b || list_any (begins_at h.seek) segments) (eq-eqb p h.seek (sym (placed p n h keyed.0)))) (longer (p) heads (keyed_there segments heads keyed.1))
    where
      longer : (q : ℕ) (hs : List KeyHead) → list_all (is_placed segments) hs ≡ true → list_all (is_placed (Record q n ∷ segments)) hs ≡ true
      longer q [] all = refl
      longer q (k ∷ hs) all =
          let parts = and_parts (is_placed segments k) (list_all (is_placed segments) hs) all in
          and_from _ _ (or_later (q == k.seek) parts.0) (longer q hs parts.1)
        where
          or_later : (a : Bool) {b : Bool} → b ≡ true → (a || b) ≡ true
          or_later true e = refl
          or_later false e = e
  keyed_there (Gap p n ∷ segments) heads keyed = keyed_there segments heads keyed

-- ---- without the left-over keys

-- none of these places is the key's
apart : (p : ℕ) (test : KeyHead → Bool) (heads : List KeyHead) (q : ℕ) → q < p → HeadsRise p heads → list_any (λ r. r == q) (map (λ h. h.seek) (filter test heads)) ≡ false
apart p test [] q lt rise = refl
apart p test (h ∷ heads) q lt rise = by (test h) (apart (h.seek + 1) test heads q (omega (arith, lt, rise.0)) rise.1)
  where
    by : (b : Bool) → list_any (λ r. r == q) (map (λ k. k.seek) (filter test heads)) ≡ false → list_any (λ r. r == q) (map (λ k. k.seek) (cond b (h ∷ filter test heads) (filter test heads))) ≡ false
    by true rest = ap (λ (b : Bool). b || list_any (λ r. r == q) (map (λ k. k.seek) (filter test heads))) (ne_eqb h.seek q (omega (arith, lt, rise.0))) ∙ rest
    by false rest = rest

stays_first : (h : KeyHead) (places : List ℕ) (heads : List KeyHead) → list_any (λ r. r == h.seek) places ≡ false → without_heads places (h ∷ heads) ≡ h ∷ without_heads places heads
stays_first h [] heads none = refl
stays_first h (p ∷ places) heads none =
    let parts = or_parts (p == h.seek) (list_any (λ r. r == h.seek) places) none in
    let other : (h.seek == p) ≡ false = turned h.seek p parts.0 in
    ap (λ (b : Bool). without_heads places (cond b heads (h ∷ without_head p heads))) other ∙ stays_first h places (without_head p heads) parts.1
  where
    turned : (a b : ℕ) → (b == a) ≡ false → (a == b) ≡ false
    turned a b other = by (a == b) refl
      where
        by : (c : Bool) → (a == b) ≡ c → c ≡ false
        by true e = sym (eq-eqb b a (sym (eqb-true a b e))) ∙ other
        by false e = refl

pub heads_left : (test : KeyHead → Bool) (p : ℕ) (heads : List KeyHead) → HeadsRise p heads → without_heads (map (λ h. h.seek) (filter test heads)) heads ≡ filter (λ h. not (test h)) heads
heads_left test p [] rise = refl
heads_left test p (h ∷ heads) rise = by (test h) (heads_left test (h.seek + 1) heads rise.1) (apart (h.seek + 1) test heads h.seek (omega arith) rise.1)
  where
    by : (b : Bool) → without_heads (map (λ k. k.seek) (filter test heads)) heads ≡ filter (λ k. not (test k)) heads → list_any (λ r. r == h.seek) (map (λ k. k.seek) (filter test heads)) ≡ false
        → without_heads (map (λ k. k.seek) (cond b (h ∷ filter test heads) (filter test heads))) (h ∷ heads) ≡ cond (not b) (h ∷ filter (λ k. not (test k)) heads) (filter (λ k. not (test k)) heads)
    by true rest none =
        ap (λ (b : Bool). without_heads (map (λ k. k.seek) (filter test heads)) (cond b heads (h ∷ without_head h.seek heads))) (eq-eqb h.seek h.seek refl) ∙ rest
    by false rest none = stays_first h (map (λ k. k.seek) (filter test heads)) heads none ∙ ap (λ (hs : List KeyHead). h ∷ hs) rest

-- ---- the places that are released

pub places_rise : (p q : ℕ) (test : KeyHead → Bool) (heads : List KeyHead) → q < p → HeadsRise p heads → AreRising q (map (λ h. h.seek) (filter test heads))
places_rise p q test [] lt rise = tt
places_rise p q test (h ∷ heads) lt rise = by (test h) (places_rise (h.seek + 1) h.seek test heads (omega arith) rise.1) (places_rise (h.seek + 1) q test heads (omega (arith, lt, rise.0)) rise.1)
  where
    by : (b : Bool) → AreRising h.seek (map (λ k. k.seek) (filter test heads)) → AreRising q (map (λ k. k.seek) (filter test heads)) → AreRising q (map (λ k. k.seek) (cond b (h ∷ filter test heads) (filter test heads)))
    by true behind rest = (omega (arith, lt, rise.0), behind)
    by false behind rest = rest

pub places_there : (segments : List Segment) (test : KeyHead → Bool) (heads : List KeyHead) → list_all (is_placed segments) heads ≡ true → list_all (λ p. list_any (begins_at p) segments) (map (λ h. h.seek) (filter test heads)) ≡ true
places_there segments test [] all = refl
places_there segments test (h ∷ heads) all =
    let parts = and_parts (is_placed segments h) (list_all (is_placed segments) heads) all in
    by (test h) parts.0 (places_there segments test heads parts.1)
  where
    by : (b : Bool) → is_placed segments h ≡ true → list_all (λ p. list_any (begins_at p) segments) (map (λ k. k.seek) (filter test heads)) ≡ true
        → list_all (λ p. list_any (begins_at p) segments) (map (λ k. k.seek) (cond b (h ∷ filter test heads) (filter test heads))) ≡ true
    by true here rest = and_from _ _ here rest
    by false here rest = rest

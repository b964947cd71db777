-- What a release makes of segments: their form, and their records.
use Rattle.std.proofs.Common.{◌≡◌, inl, inr, ℕ, zero, suc, ◌+◌, ◌%◌, ◌<◌, ◌≤◌, Bool, true, false, cond, eqb, List, [], ◌∷◌, ◌++◌, length, get_or, refl, sym, ap, subst, ◌∙◌, arith}
use Rattle.std.proofs.lemmas.Bool.{eq-eqb, ne_eqb}
use Rattle.rio_free.specs.{Gaps.{IsApart, gap_of}, declared.gap.Gap.{Gap as FreeGap}}
use Rattle.rio_chain.specs.{declared.segment.Segment.{Segment, TheVariants.{Record, Gap}}, declared.segment.Span.{Span}}
use Rattle.rio_chain.specs.Adjoining.{AreAdjacent, AreGapsApart, AreSegments, BeginsAt, BeginsWithRecord, segment_length, segment_place}
use Rattle.rio_chain.specs.{Merging.{span_of, spans_in}, Placing.{gaps_in}, Releasing.{with_free, without_segment}}

-- ---- the form

adjacent_free : (p n : ℕ) (segments : List Segment) → 4 ≤ n → n % 4 ≡ 0 → AreAdjacent (p + n) segments → AreAdjacent p (with_free p n segments)
adjacent_free p n [] some aligned are = tt
adjacent_free p n (Record q m ∷ segments) some aligned are = (record { there = refl; some = some; aligned = aligned }, are)
adjacent_free p n (Gap q m ∷ segments) some aligned are = (
  record { there = refl; some = omega (arith, some); aligned = omega (arith, aligned, are.0.aligned) },
  subst (λ (r : ℕ). AreAdjacent r segments) (let e : p + n + m ≡ p + (n + m) = omega arith in e) are.1,
)

adjacent_at : (p q n : ℕ) (segments : List Segment) → BeginsAt p (Record q n) → AreAdjacent (p + n) segments → AreAdjacent p (with_free q n segments)
adjacent_at p q n segments begins are = subst (λ (r : ℕ). AreAdjacent p (with_free r n segments)) (sym begins.there) (adjacent_free p n segments begins.some begins.aligned are)

pub adjacent_without : (place p : ℕ) (segments : List Segment) → AreAdjacent p segments → AreAdjacent p (without_segment place segments)
adjacent_without place p [] are = tt
adjacent_without place p (Record q n ∷ segments) are = by (eqb q place) (adjacent_without place (p + n) segments are.1)
  where
    by : (b : Bool) → AreAdjacent (p + n) (without_segment place segments) → AreAdjacent p (cond b (with_free q n segments) (Record q n ∷ without_segment place segments))
    by true ih = adjacent_at p q n segments are.0 are.1
    by false ih = (are.0, ih)
adjacent_without place p (Gap q n ∷ segments) are =
    adjacent_at p q n (without_segment place segments) (record { there = are.0.there; some = are.0.some; aligned = are.0.aligned }) (adjacent_without place (p + n) segments are.1)

apart_free : (p n : ℕ) (segments : List Segment) → AreGapsApart segments → AreGapsApart (with_free p n segments)
apart_free p n [] apart = tt
apart_free p n (Record q m ∷ segments) apart = (tt, apart)
apart_free p n (Gap q m ∷ segments) apart = apart

pub apart_without : (place : ℕ) (segments : List Segment) → AreGapsApart segments → AreGapsApart (without_segment place segments)
apart_without place [] apart = tt
apart_without place (Record q n ∷ segments) apart = by (eqb q place) (apart_without place segments apart)
  where
    by : (b : Bool) → AreGapsApart (without_segment place segments) → AreGapsApart (cond b (with_free q n segments) (Record q n ∷ without_segment place segments))
    by true ih = apart_free q n segments apart
    by false ih = ih
apart_without place (Gap q n ∷ segments) apart = apart_free q n (without_segment place segments) (apart_without place segments apart.1)

first_without : (place p : ℕ) (segments : List Segment) → p < place → AreAdjacent p segments → BeginsWithRecord segments → BeginsWithRecord (without_segment place segments)
first_without place p [] later are first = absurd first
first_without place p (Gap q n ∷ segments) later are first = absurd first
first_without place p (Record q n ∷ segments) later are first = let other : eqb q place ≡ false = ne_eqb _ _ (omega (arith, later, are.0.there)) in rw other tt

pub shape_without : (place : ℕ) (segments : List Segment) → 100 < place → AreSegments segments → AreSegments (without_segment place segments)
shape_without place segments later shape = record {
  first = first_without place 100 segments later shape.adjacent shape.first;
  adjacent = adjacent_without place 100 segments shape.adjacent;
  apart = apart_without place segments shape.apart;
}

-- ---- records, and the places of gaps

spans_free : (p m : ℕ) (segments : List Segment) → spans_in (with_free p m segments) ≡ spans_in segments
spans_free p m [] = refl
spans_free p m (Record q k ∷ segments) = refl
spans_free p m (Gap q k ∷ segments) = refl

-- no gap begins before the first segment
gaps_from : (p : ℕ) (segments : List Segment) → AreAdjacent p segments → (k : ℕ) (d : FreeGap) → k < length (gaps_in segments) → p ≤ (get_or (gaps_in segments) k d).place
gaps_from p [] are k d lt = absurd (omega (arith, lt))
gaps_from p (Record q m ∷ segments) are k d lt = omega (arith, gaps_from (p + m) segments are.1 k d lt)
gaps_from p (Gap q m ∷ segments) are zero d lt = omega (arith, are.0.there)
gaps_from p (Gap q m ∷ segments) are (suc k) d lt = omega (arith, gaps_from (p + m) segments are.1 k d (omega (arith, lt)))

-- ---- a record among segments

module _ (place n : ℕ) (back : List Segment) where
  reaches : (p : ℕ) (front : List Segment) → AreAdjacent p (front ++ Record place n ∷ back) → p ≤ place
  reaches p [] are = omega (arith, are.0.there)
  reaches p (s ∷ front) are = omega (arith, reaches (p + segment_length s) front are.1)

  before : (p : ℕ) (s : Segment) (front : List Segment) → AreAdjacent p (s ∷ (front ++ Record place n ∷ back)) → segment_place s + segment_length s ≤ place
  before p s front are = omega (arith, are.0.there, reaches (p + segment_length s) front are.1)

  -- another segment stands in front of it
  passes : (p : ℕ) (s : Segment) (front : List Segment) → AreAdjacent p (s ∷ (front ++ Record place n ∷ back)) → eqb (segment_place s) place ≡ false
  passes p s front are = let le = before p s front are in ne_eqb _ _ (omega (arith, le, are.0.some))

  -- the records that are left
  pub spans_without : (p : ℕ) (front : List Segment) → AreAdjacent p (front ++ Record place n ∷ back) → spans_in (without_segment place (front ++ Record place n ∷ back)) ≡ spans_in front ++ spans_in back
  spans_without p [] are = let same : eqb place place ≡ true = eq-eqb place place refl in rw same (spans_free place n back)
  spans_without p (Record q m ∷ front) are =
      let other : eqb q place ≡ false = passes p (Record q m) front are in
      rw other (ap (λ (l : List Span). span_of q m ∷ l) (spans_without (p + m) front are.1))
  spans_without p (Gap q m ∷ front) are = spans_free q m (without_segment place (front ++ Record place n ∷ back)) ∙ spans_without (p + m) front are.1

  -- no gap has a byte of it
  pub bytes_apart : (p : ℕ) (front : List Segment) → AreAdjacent p (front ++ Record place n ∷ back) → IsApart (gap_of place n) (gaps_in (front ++ Record place n ∷ back))
  bytes_apart p [] are k d lt = inr (omega (arith, are.0.there, gaps_from (p + n) back are.1 k d lt))
  bytes_apart p (Record q m ∷ front) are k d lt = bytes_apart (p + m) front are.1 k d lt
  bytes_apart p (Gap q m ∷ front) are zero d lt = inl (before p (Gap q m) front are)
  bytes_apart p (Gap q m ∷ front) are (suc k) d lt = bytes_apart (p + m) front are.1 k d (omega (arith, lt))

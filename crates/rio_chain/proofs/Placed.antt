-- A record among segments: where it stands in their list, and what stays of their form.
use Rattle.std.proofs.Common.{◌≡◌, ◌⊎◌, inl, inr, ⊎_elim, ℕ, zero, suc, ◌+◌, ◌-◌, ◌%◌, ◌<◌, ◌≤◌, Bool, true, false, cond, eqb, List, [], ◌∷◌, ◌++◌, Option, Some, None, refl, sym, ap, subst, ◌∙◌, arith}
use Rattle.std.proofs.{lemmas.Bool.{eq-eqb, ne_eqb, eqb-true, eqb-false}, lemmas.List.{append-nil}}
use Rattle.std.specs.{Option.{option_map, unwrap_or}}
use Rattle.rio_free.specs.{Gaps.{HasGapFor, best_gap, gap_of, left_from, taken}, declared.gap.Gap.{Gap as FreeGap}}
use Rattle.rio_free.proofs.Best.{best_is_gap}
use Rattle.rio_chain.specs.declared.segment.Segment.{Segment, TheVariants.{Record, Gap}}
use Rattle.rio_chain.specs.Adjoining.{AreAdjacent, AreGapsApart, AreSegments, BeginsAt, BeginsWithRecord, segment_length, segments_end}
use Rattle.rio_chain.specs.Placing.{HasRest, IsFree, IsPlaceFor, file_end, gaps_in, record_count, rest_of_gap, with_segment}

-- ---- a place that can be taken

pub place_free : (segments : List Segment) (n place : ℕ) → IsPlaceFor segments n place → IsFree segments n place
place_free segments n place is = ⊎_elim (λ rule. by (best_gap n (gaps_in segments)) refl (rule)) (λ end. inr end) is
  where
    by : (r : Option FreeGap) → best_gap n (gaps_in segments) ≡ r → place ≡ unwrap_or (option_map (λ g. g.place) r) (file_end segments) → IsFree segments n place
    by (Some g) found rule = inl (subst (λ (p : ℕ). HasGapFor (gaps_in segments) p n) (sym rule) (best_is_gap n (gaps_in segments) g found))
    by None found rule = inr rule

-- ---- where a gap stands

-- the gap at a place, in the list
pub record Split (segments : List Segment) (place n : ℕ) : Type 0 where
  pub front : List Segment
  pub back : List Segment
  pub m : ℕ
  pub is : segments ≡ front ++ Gap place m ∷ back
  pub fit : (m ≡ n) ⊎ (n + 3 < m)
  pub with_is : with_segment place n segments ≡ front ++ Record place n ∷ rest_of_gap (place + n) (m - n) back

split_more : (s : Segment) (segments : List Segment) (place n : ℕ) → (with_segment place n (s ∷ segments) ≡ s ∷ with_segment place n segments) → Split segments place n → Split (s ∷ segments) place n
split_more s segments place n more c = record {
  front = s ∷ c.front;
  back = c.back;
  m = c.m;
  is = ap (λ (l : List Segment). s ∷ l) c.is;
  fit = c.fit;
  with_is = more ∙ ap (λ (l : List Segment). s ∷ l) c.with_is;
}

-- no gap stands before the first of them
gap_behind : (p : ℕ) (segments : List Segment) (place n : ℕ) → AreAdjacent p segments → HasGapFor (gaps_in segments) place n → p ≤ place
gap_behind p [] place n adjacent (k, x, lt, is, fits) = absurd (omega (arith, lt))
gap_behind p (Record q l ∷ segments) place n adjacent has = let le = gap_behind (p + l) segments place n adjacent.1 has in omega (arith, le)
gap_behind p (Gap q l ∷ segments) place n adjacent (zero, x, lt, is, fits) = omega (arith, adjacent.0.there, ap (λ (g : FreeGap). g.place) is, fits.0)
gap_behind p (Gap q l ∷ segments) place n adjacent (suc k, x, lt, is, fits) =
    let le = gap_behind (p + l) segments place n adjacent.1 (k, x, omega (arith, lt), is, fits) in omega (arith, le)

pub split : (p : ℕ) (segments : List Segment) (place n : ℕ) → AreAdjacent p segments → HasGapFor (gaps_in segments) place n → Split segments place n
split p [] place n adjacent (k, x, lt, is, fits) = absurd (omega (arith, lt))
split p (Record q l ∷ segments) place n adjacent has =
    split_more (Record q l) segments place n refl (split (p + l) segments place n adjacent.1 has)
split p (Gap q l ∷ segments) place n adjacent (zero, x, lt, is, fits) =
    let there : q ≡ place = ap (λ (g : FreeGap). g.place) is ∙ fits.0 in
    let long : x.length ≡ l = ap (λ (g : FreeGap). g.length) (sym is) in
    record {
      front = [];
      back = segments;
      m = l;
      is = ap (λ (k : ℕ). Gap k l ∷ segments) there;
      fit = subst (λ (k : ℕ). (k ≡ n) ⊎ (n + 3 < k)) long fits.1;
      with_is = (let same : eqb q place ≡ true = eq-eqb _ _ there in rw same refl);
    }
split p (Gap q l ∷ segments) place n adjacent (suc k, x, lt, is, fits) =
    let more : HasGapFor (gaps_in segments) place n = (k, x, omega (arith, lt), is, fits) in
    let le = gap_behind (p + l) segments place n adjacent.1 more in
    let before : q < place = omega (arith, le, adjacent.0.there, adjacent.0.some) in
    let other : eqb q place ≡ false = ne_eqb _ _ (omega (arith, before)) in
    split_more (Gap q l) segments place n (rw other refl) (split (p + l) segments place n adjacent.1 more)

-- at END it stands behind them all
pub at_end : (p : ℕ) (segments : List Segment) (place n : ℕ) → AreAdjacent p segments → place ≡ segments_end p segments → with_segment place n segments ≡ segments ++ Record place n ∷ []
at_end p [] place n adjacent is = refl
at_end p (Record q l ∷ segments) place n adjacent is = ap (λ (s : List Segment). Record q l ∷ s) (at_end (p + l) segments place n adjacent.1 is)
at_end p (Gap q l ∷ segments) place n adjacent is =
    let le = end_behind (p + l) segments in
    let other : eqb q place ≡ false = ne_eqb _ _ (omega (arith, is, le, adjacent.0.there, adjacent.0.some)) in
    rw other (ap (λ (s : List Segment). Gap q l ∷ s) (at_end (p + l) segments place n adjacent.1 is))
  where
    end_behind : (p : ℕ) (segments : List Segment) → p ≤ segments_end p segments
    end_behind p [] = omega arith
    end_behind p (s ∷ segments) = omega (arith, end_behind (p + segment_length s) segments)

-- ---- its gaps, and how many records

pub gaps_with : (place n : ℕ) (segments : List Segment) → gaps_in (with_segment place n segments) ≡ taken place n (gaps_in segments)
gaps_with place n [] = refl
gaps_with place n (Record p m ∷ segments) = gaps_with place n segments
gaps_with place n (Gap p m ∷ segments) = by (eqb p place) (gaps_with place n segments)
  where
    rest : (b : Bool) (k : ℕ) → gaps_in (cond b segments (Gap (place + n) k ∷ segments)) ≡ cond b (gaps_in segments) (gap_of (place + n) k ∷ gaps_in segments)
    rest true k = refl
    rest false k = refl

    by : (b : Bool) → gaps_in (with_segment place n segments) ≡ taken place n (gaps_in segments)
        → gaps_in (cond b (Record place n ∷ rest_of_gap (place + n) (m - n) segments) (Gap p m ∷ with_segment place n segments)) ≡ cond b (left_from (place + n) (m - n) (gaps_in segments)) (gap_of p m ∷ taken place n (gaps_in segments))
    by true ih = rest (eqb (m - n) 0) (m - n)
    by false ih = ap (λ (l : List FreeGap). gap_of p m ∷ l) ih

pub gaps_append : (xs ys : List Segment) → gaps_in (xs ++ ys) ≡ gaps_in xs ++ gaps_in ys
gaps_append [] ys = refl
gaps_append (Record p m ∷ xs) ys = gaps_append xs ys
gaps_append (Gap p m ∷ xs) ys = ap (λ (l : List FreeGap). gap_of p m ∷ l) (gaps_append xs ys)

-- ---- the form

pub adjacent_join : (p : ℕ) (front back : List Segment) → AreAdjacent p front → AreAdjacent (segments_end p front) back → AreAdjacent p (front ++ back)
adjacent_join p [] back one two = two
adjacent_join p (s ∷ front) back one two = (one.0, adjacent_join (p + segment_length s) front back one.1 two)

pub adjacent_cut : (p : ℕ) (front back : List Segment) → AreAdjacent p (front ++ back) → AreAdjacent p front × AreAdjacent (segments_end p front) back
adjacent_cut p [] back are = (tt, are)
adjacent_cut p (s ∷ front) back are = let rest = adjacent_cut (p + segment_length s) front back are.1 in ((are.0, rest.0), rest.1)

pub end-append : (p : ℕ) (front back : List Segment) → segments_end p (front ++ back) ≡ segments_end (segments_end p front) back
end-append p [] back = refl
end-append p (s ∷ front) back = end-append (p + segment_length s) front back

pub end-le : (p : ℕ) (segments : List Segment) → p ≤ segments_end p segments
end-le p [] = omega arith
end-le p (s ∷ segments) = omega (arith, end-le (p + segment_length s) segments)

-- what stands behind a front may be another list that begins with a record
pub apart_as : (front one two : List Segment) → AreGapsApart (front ++ one) → (BeginsWithRecord one → BeginsWithRecord two) → AreGapsApart two → AreGapsApart (front ++ two)
apart_as [] one two apart begins other = other
apart_as (Record p n ∷ front) one two apart begins other = apart_as front one two apart begins other
apart_as (Gap p n ∷ []) one two apart begins other = (begins apart.0, other)
apart_as (Gap p n ∷ s ∷ front) one two apart begins other = (apart.0, apart_as (s ∷ front) one two apart.1 begins other)

pub apart_back : (front back : List Segment) → AreGapsApart (front ++ back) → AreGapsApart back
apart_back [] back apart = apart
apart_back (Record p n ∷ front) back apart = apart_back front back apart
apart_back (Gap p n ∷ front) back apart = apart_back front back apart.1

pub first_as : (front one two : List Segment) → BeginsWithRecord (front ++ one) → (BeginsWithRecord one → BeginsWithRecord two) → BeginsWithRecord (front ++ two)
first_as [] one two first begins = begins first
first_as (s ∷ front) one two first begins = first

-- ---- at END

pub end_shape : (segments : List Segment) (n : ℕ) → AreSegments segments → 4 ≤ n → n % 4 ≡ 0 → AreSegments (segments ++ Record (file_end segments) n ∷ [])
end_shape segments n shape some aligned = record {
  first = first_as segments [] (Record (file_end segments) n ∷ []) (subst BeginsWithRecord (sym (append-nil segments)) shape.first) (λ none. tt);
  adjacent = adjacent_join 100 segments (Record (file_end segments) n ∷ []) shape.adjacent (record { there = refl; some = some; aligned = aligned }, tt);
  apart = apart_as segments [] (Record (file_end segments) n ∷ []) (subst AreGapsApart (sym (append-nil segments)) shape.apart) (λ none. tt) tt;
}

-- ---- in a gap

count-append : (front back : List Segment) → record_count (front ++ back) ≡ record_count front + record_count back
count-append [] back = omega arith
count-append (Record p n ∷ front) back = omega (arith, count-append front back)
count-append (Gap p n ∷ front) back = count-append front back

module _ (segments : List Segment) (place n : ℕ) (c : Split segments place n) (shape : AreSegments segments) (some : 4 ≤ n) (aligned : n % 4 ≡ 0) where
  cut : AreAdjacent 100 c.front × AreAdjacent (segments_end 100 c.front) (Gap place c.m ∷ c.back)
  cut = adjacent_cut 100 c.front (Gap place c.m ∷ c.back) (subst (AreAdjacent 100) c.is shape.adjacent)

  gap : BeginsAt (segments_end 100 c.front) (Gap place c.m)
  gap = cut.1.0

  abbrev rest : List Segment
  rest = rest_of_gap (place + n) (c.m - n) c.back

  -- the record and what is left of the gap
  rest_adjacent : (b : Bool) → eqb (c.m - n) 0 ≡ b → AreAdjacent (place + n) (cond b c.back (Gap (place + n) (c.m - n) ∷ c.back))
  rest_adjacent true none = subst (λ (p : ℕ). AreAdjacent p c.back) (let e : segments_end 100 c.front + c.m ≡ place + n = omega (arith, eqb-true _ _ none, c.fit, gap.there) in e) cut.1.1
  rest_adjacent false left = (
    record { there = refl; some = omega (arith, c.fit, eqb-false _ _ left); aligned = omega (arith, gap.aligned, aligned, c.fit) },
    subst (λ (p : ℕ). AreAdjacent p c.back) (let e : segments_end 100 c.front + c.m ≡ place + n + (c.m - n) = omega (arith, c.fit, gap.there) in e) cut.1.1,
  )

  apart : BeginsWithRecord c.back × AreGapsApart c.back
  apart = apart_back c.front (Gap place c.m ∷ c.back) (subst AreGapsApart c.is shape.apart)

  rest_apart : (b : Bool) → AreGapsApart (cond b c.back (Gap (place + n) (c.m - n) ∷ c.back))
  rest_apart true = apart.1
  rest_apart false = apart

  rest_end : (b : Bool) → eqb (c.m - n) 0 ≡ b → segments_end (place + n) (cond b c.back (Gap (place + n) (c.m - n) ∷ c.back)) ≡ segments_end (segments_end 100 c.front + c.m) c.back
  rest_end true none = ap (λ (p : ℕ). segments_end p c.back) (let e : place + n ≡ segments_end 100 c.front + c.m = omega (arith, eqb-true _ _ none, c.fit, gap.there) in e)
  rest_end false left = ap (λ (p : ℕ). segments_end p c.back) (let e : place + n + (c.m - n) ≡ segments_end 100 c.front + c.m = omega (arith, c.fit, gap.there) in e)

  rest_count : (b : Bool) → record_count (cond b c.back (Gap (place + n) (c.m - n) ∷ c.back)) ≡ record_count c.back
  rest_count true = refl
  rest_count false = refl

  abbrev after : List Segment
  after = c.front ++ Record place n ∷ rest

  pub gap_shape : AreSegments (with_segment place n segments)
  gap_shape = subst AreSegments (sym c.with_is) (record {
    first = first_as c.front (Gap place c.m ∷ c.back) after_tail (subst BeginsWithRecord c.is shape.first) (λ none. tt);
    adjacent = adjacent_join 100 c.front after_tail cut.0 (record { there = gap.there; some = some; aligned = aligned }, subst (λ (p : ℕ). AreAdjacent (p + n) rest) gap.there (rest_adjacent (eqb (c.m - n) 0) refl));
    apart = apart_as c.front (Gap place c.m ∷ c.back) after_tail (subst AreGapsApart c.is shape.apart) (λ none. tt) (rest_apart (eqb (c.m - n) 0));
  })
    where
      after_tail : List Segment
      after_tail = Record place n ∷ rest_of_gap (place + n) (c.m - n) c.back

  pub gap_end_same : file_end (with_segment place n segments) ≡ file_end segments
  gap_end_same = ap file_end c.with_is ∙ end-append 100 c.front (Record place n ∷ rest)
      ∙ ap (λ (p : ℕ). segments_end (p + n) rest) (sym gap.there) ∙ rest_end (eqb (c.m - n) 0) refl ∙ sym (end-append 100 c.front (Gap place c.m ∷ c.back)) ∙ ap file_end (sym c.is)

  pub gap_count : record_count (with_segment place n segments) ≡ record_count segments + 1
  gap_count = omega (
    arith,
    ap record_count c.with_is,
    count-append c.front (Record place n ∷ rest),
    rest_count (eqb (c.m - n) 0),
    ap record_count c.is,
    count-append c.front (Gap place c.m ∷ c.back),
  )

-- where it is told what is left
pub has_rest : (segments : List Segment) (place n : ℕ) (c : Split segments place n) → HasRest segments place n (c.m - n)
has_rest segments place n c = (c.front, c.back, c.is ∙ ap (λ (k : ℕ). c.front ++ Gap place k ∷ c.back) (let e : c.m ≡ n + (c.m - n) = omega (arith, c.fit) in e), ⊎_elim (λ same. inl (omega (arith, same))) (λ more. inr (omega (arith, more))) c.fit)

-- the gap ends at END or before
pub split_low : (segments : List Segment) (place n : ℕ) → Split segments place n → AreSegments segments → place + n ≤ file_end segments
split_low segments place n c shape =
    let cut = adjacent_cut 100 c.front (Gap place c.m ∷ c.back) (subst (AreAdjacent 100) c.is shape.adjacent) in
    omega (arith, c.fit, cut.1.0.there, end-le (segments_end 100 c.front + c.m) c.back, ap file_end c.is, end-append 100 c.front (Gap place c.m ∷ c.back))

pub gaps_end : (segments : List Segment) (place n : ℕ) → gaps_in (segments ++ Record place n ∷ []) ≡ gaps_in segments
gaps_end [] place n = refl
gaps_end (Record p m ∷ segments) place n = gaps_end segments place n
gaps_end (Gap p m ∷ segments) place n = ap (λ (l : List FreeGap). gap_of p m ∷ l) (gaps_end segments place n)

-- the place of a gap, and not END
pub gap_low : (segments : List Segment) (place n : ℕ) → AreSegments segments → HasGapFor (gaps_in segments) place n → place + n ≤ file_end segments
gap_low segments place n shape fit = split_low segments place n (split 100 segments place n shape.adjacent fit) shape

pub end_segments : (segments : List Segment) (place n : ℕ) → AreSegments segments → place ≡ file_end segments → with_segment place n segments ≡ segments ++ Record (file_end segments) n ∷ []
end_segments segments place n shape is = at_end 100 segments place n shape.adjacent is ∙ ap (λ (p : ℕ). segments ++ Record p n ∷ []) is

pub end_grows : (segments : List Segment) (place n : ℕ) → AreSegments segments → place ≡ file_end segments → file_end (with_segment place n segments) ≡ file_end segments + n
end_grows segments place n shape is = ap file_end (end_segments segments place n shape is) ∙ end-append 100 segments (Record (file_end segments) n ∷ [])

-- ---- places are multiples of four

aligned_gap : (p : ℕ) (segments : List Segment) (place n : ℕ) → AreAdjacent p segments → p % 4 ≡ 0 → HasGapFor (gaps_in segments) place n → place % 4 ≡ 0
aligned_gap p [] place n are aligned (k, x, lt, is, fits) = absurd (omega (arith, lt))
aligned_gap p (Record q l ∷ segments) place n are aligned has = aligned_gap (p + l) segments place n are.1 (omega (arith, are.0.aligned, aligned)) has
aligned_gap p (Gap q l ∷ segments) place n are aligned (zero, x, lt, is, fits) = omega (arith, aligned, are.0.there, ap (λ (g : FreeGap). g.place) is, fits.0)
aligned_gap p (Gap q l ∷ segments) place n are aligned (suc k, x, lt, is, fits) = aligned_gap (p + l) segments place n are.1 (omega (arith, are.0.aligned, aligned)) (k, x, omega (arith, lt), is, fits)

pub aligned_end : (p : ℕ) (segments : List Segment) → AreAdjacent p segments → p % 4 ≡ 0 → segments_end p segments % 4 ≡ 0
aligned_end p [] are aligned = aligned
aligned_end p (s ∷ segments) are aligned = aligned_end (p + segment_length s) segments are.1 (omega (arith, are.0.aligned, aligned))

pub aligned_place : (segments : List Segment) (place n : ℕ) → AreSegments segments → IsFree segments n place → place % 4 ≡ 0
aligned_place segments place n shape free = ⊎_elim
    (λ fit. aligned_gap 100 segments place n shape.adjacent refl fit)
    (λ end. subst (λ (p : ℕ). p % 4 ≡ 0) (sym end) (aligned_end 100 segments shape.adjacent refl))
    free

pub low_place : (segments : List Segment) (place n : ℕ) → AreSegments segments → IsFree segments n place → place ≤ file_end segments
low_place segments place n shape free = ⊎_elim (λ fit. let le = gap_low segments place n shape fit in omega (arith, le)) (λ end. omega (arith, end)) free

-- what is left of a gap ends before END
pub low_rest : (segments : List Segment) (place n rest : ℕ) → AreSegments segments → HasRest segments place n rest → rest ≤ file_end segments
low_rest segments place n rest shape has =
    omega (arith, ap file_end has.2, end-append 100 has.0 (Gap place (n + rest) ∷ has.1), end-le (segments_end 100 has.0 + (n + rest)) has.1)

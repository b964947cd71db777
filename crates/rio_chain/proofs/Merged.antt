-- Records and gaps that are merged by place.
use Rattle.std.proofs.Common.{◌≡◌, ⊎_elim, ℕ, zero, suc, ◌+◌, ◌-◌, ◌%◌, ◌<◌, ◌≤◌, Bool, true, false, cond, ltb, eqb, List, [], ◌∷◌, ◌++◌, length, length-append, take, get_or, Option, Some, None, refl, sym, ap, subst, ◌∙◌, arith}
use Rattle.std.proofs.{lemmas.Bool.Decides.{nat_tests}, lemmas.Option.{none-some, same_Some}, Math.Seq.{take-suc}}
use Rattle.std.specs.List.{prefix_len, insert, Sorted.{IsNonDecreasingBy}}
use Rattle.rio_free.specs.{Gaps.{HasGapFor, gap_of, gap_over, lies_in, taken}, declared.gap.Gap.{Gap as FreeGap}}
use Rattle.rio_chain.specs.{declared.segment.Segment.{Segment, TheVariants.{Record, Gap}}, declared.segment.Span.{Span}}
use Rattle.rio_chain.specs.Adjoining.{AreAdjacent, AreSegments, segment_length, segment_place, segments_end}
use Rattle.rio_chain.specs.{Merging.{gap_among, merged, span_of, spans_in}, Placing.{HasRest, IsPlaceFor, file_end, gaps_in, record_count, rest_of_gap, with_segment}}
use Rattle.rio_chain.proofs.{Indices.{get_at, insert_at}, Placed.{adjacent_cut, end-append, end_shape, gap_end_same, gap_shape, gaps_append, gaps_end, gaps_with, has_rest, place_free, split}}

-- ---- segments are their records and their gaps, merged

-- all gaps begin behind a place
abbrev AllBehind : ℕ → List FreeGap → Type 0
AllBehind low [] = Unit {0}
AllBehind low (g ∷ gaps) = (low < g.place) × AllBehind low gaps

all_behind : (p low : ℕ) (segments : List Segment) → AreAdjacent p segments → low < p → AllBehind low (gaps_in segments)
all_behind p low [] are lt = tt
all_behind p low (Record q n ∷ segments) are lt = all_behind (p + n) low segments are.1 (omega (arith, lt))
all_behind p low (Gap q n ∷ segments) are lt = (omega (arith, lt, are.0.there), all_behind (p + n) low segments are.1 (omega (arith, lt)))

record_first : (q n : ℕ) (spans : List Span) (gaps : List FreeGap) → AllBehind q gaps → merged (span_of q n ∷ spans) gaps ≡ Record q n ∷ merged spans gaps
record_first q n spans [] all = refl
record_first q n spans (g ∷ gaps) all =
    let no : ltb g.place q ≡ false = grind (arith, nat_tests, all.0) in
    ap (gap_among g) (record_first q n spans gaps all.1) ∙ rw no refl

gap_first : (p q n : ℕ) (segments : List Segment) → AreAdjacent p segments → q < p → gap_among (gap_of q n) segments ≡ Gap q n ∷ segments
gap_first p q n [] are lt = refl
gap_first p q n (s ∷ segments) are lt = let yes : ltb q (segment_place s) ≡ true = grind (arith, nat_tests, are.0.there) in rw yes refl

pub merged_is : (p : ℕ) (segments : List Segment) → AreAdjacent p segments → merged (spans_in segments) (gaps_in segments) ≡ segments
merged_is p [] are = refl
merged_is p (Record q n ∷ segments) are =
    record_first q n (spans_in segments) (gaps_in segments) (all_behind (p + n) q segments are.1 (omega (arith, are.0.there, are.0.some)))
    ∙ ap (λ (l : List Segment). Record q n ∷ l) (merged_is (p + n) segments are.1)
merged_is p (Gap q n ∷ segments) are =
    ap (gap_among (gap_of q n)) (merged_is (p + n) segments are.1) ∙ gap_first (p + n) q n segments are.1 (omega (arith, are.0.there, are.0.some))

-- what a chain keeps is that of these segments
pub record Kept (segments : List Segment) (spans : List Span) (gaps : List FreeGap) (end : ℕ) : Type 0 where
  pub shape : AreSegments segments
  pub records_are : spans ≡ spans_in segments
  pub gaps_are : gaps ≡ gaps_in segments
  pub end_is : end ≡ file_end segments

-- and they are what is kept, merged
pub record Keeps (segments : List Segment) (spans : List Span) (gaps : List FreeGap) (end : ℕ) : Type 0 where
  pub is : merged spans gaps ≡ segments
  pub shape : AreSegments (merged spans gaps)
  pub records_are : spans ≡ spans_in (merged spans gaps)
  pub gaps_are : gaps ≡ gaps_in (merged spans gaps)
  pub end_is : end ≡ file_end (merged spans gaps)

pub kept : (segments : List Segment) (spans : List Span) (gaps : List FreeGap) (end : ℕ) → merged spans gaps ≡ segments → AreSegments (merged spans gaps) → spans ≡ spans_in (merged spans gaps)
    → gaps ≡ gaps_in (merged spans gaps) → end ≡ file_end (merged spans gaps) → Kept segments spans gaps end
kept segments spans gaps end is shape records_are gaps_are end_is = record {
  shape = subst AreSegments is shape;
  records_are = records_are ∙ ap spans_in is;
  gaps_are = gaps_are ∙ ap gaps_in is;
  end_is = end_is ∙ ap file_end is;
}

pub keeps : (segments : List Segment) (spans : List Span) (gaps : List FreeGap) (end : ℕ) → Kept segments spans gaps end → Keeps segments spans gaps end
keeps segments spans gaps end k =
    let is : merged spans gaps ≡ segments = (λ i. merged (k.records_are i) (k.gaps_are i)) ∙ merged_is 100 segments k.shape.adjacent in
    record {
      is = is;
      shape = subst AreSegments (sym is) k.shape;
      records_are = k.records_are ∙ ap spans_in (sym is);
      gaps_are = k.gaps_are ∙ ap gaps_in (sym is);
      end_is = k.end_is ∙ ap file_end (sym is);
    }

-- ---- how many records, and where they begin

pub count_is : (segments : List Segment) → record_count segments ≡ length (spans_in segments)
count_is [] = refl
count_is (Record q n ∷ segments) = omega (arith, count_is segments)
count_is (Gap q n ∷ segments) = count_is segments

abbrev pub span_start : Span → ℕ
span_start s = s.place

abbrev pub begins_before : ℕ → Span → Bool
begins_before place s = ltb s.place place

-- no record begins before the first
spans_behind : (p : ℕ) (segments : List Segment) → AreAdjacent p segments → (k : ℕ) (d : Span) → k < length (spans_in segments) → p ≤ span_start (get_or (spans_in segments) k d)
spans_behind p [] are k d lt = absurd (omega (arith, lt))
spans_behind p (Gap q n ∷ segments) are k d lt = omega (arith, spans_behind (p + n) segments are.1 k d lt)
spans_behind p (Record q n ∷ segments) are zero d lt = omega (arith, are.0.there)
spans_behind p (Record q n ∷ segments) are (suc k) d lt = omega (arith, spans_behind (p + n) segments are.1 k d (omega arith))

-- the places rise
pub spans_rise : (p : ℕ) (segments : List Segment) → AreAdjacent p segments → IsNonDecreasingBy span_start (spans_in segments)
spans_rise p [] are i j d le lt = absurd (omega (arith, lt))
spans_rise p (Gap q n ∷ segments) are i j d le lt = spans_rise (p + n) segments are.1 i j d le lt
spans_rise p (Record q n ∷ segments) are zero zero d le lt = omega arith
spans_rise p (Record q n ∷ segments) are zero (suc j) d le lt = omega (arith, spans_behind (p + n) segments are.1 j d (omega arith), are.0.there)
spans_rise p (Record q n ∷ segments) are (suc i) zero d le lt = absurd (omega (arith, le))
spans_rise p (Record q n ∷ segments) are (suc i) (suc j) d le lt = spans_rise (p + n) segments are.1 i j d (omega arith) (omega arith)

-- ---- the index of a place

pub spans_append : (xs ys : List Segment) → spans_in (xs ++ ys) ≡ spans_in xs ++ spans_in ys
spans_append [] ys = refl
spans_append (Record p m ∷ xs) ys = ap (λ (l : List Span). span_of p m ∷ l) (spans_append xs ys)
spans_append (Gap p m ∷ xs) ys = spans_append xs ys

none_before : (p place : ℕ) (segments : List Segment) → AreAdjacent p segments → place ≤ p → prefix_len (begins_before place) (spans_in segments) ≡ 0
none_before p place [] are le = refl
none_before p place (Record q n ∷ segments) are le = let no : ltb q place ≡ false = grind (arith, nat_tests, are.0.there) in rw no refl
none_before p place (Gap q n ∷ segments) are le = none_before (p + n) place segments are.1 (omega (arith, le))

end_behind : (p : ℕ) (segments : List Segment) → p ≤ segments_end p segments
end_behind p [] = omega arith
end_behind p (s ∷ segments) = omega (arith, end_behind (p + segment_length s) segments)

-- so many records stand before the end of a front
pub cut_index : (p place : ℕ) (front back : List Segment) → AreAdjacent p (front ++ back) → place ≡ segments_end p front → prefix_len (begins_before place) (spans_in (front ++ back)) ≡ length (spans_in front)
cut_index p place [] back are is = none_before p place back are (omega (arith, is))
cut_index p place (Record q n ∷ front) back are is =
    let le = end_behind (p + n) front in
    let yes : ltb q place ≡ true = grind (arith, nat_tests, le, is, are.0.there, are.0.some) in
    rw yes (omega (arith, cut_index (p + n) place front back are.1 is))
cut_index p place (Gap q n ∷ front) back are is = cut_index (p + n) place front back are.1 is

-- ---- a record at an index

-- What the code finds at the index of a record.
pub record Found (segments : List Segment) (place n at : ℕ) : Type 0 where
  pub inside : at < length (spans_in segments)
  pub is : (x : Span) → x ≡ get_or (spans_in segments) at x → x ≡ span_of place n

pub found_at : (segments front back : List Segment) (place n at : ℕ) → segments ≡ front ++ Record place n ∷ back → AreAdjacent 100 segments → at ≡ prefix_len (begins_before place) (spans_in segments) → Found segments place n at
found_at segments front back place n at whole are index =
    let there = adjacent_cut 100 front (Record place n ∷ back) (subst (AreAdjacent 100) whole are) in
    let at_is : at ≡ length (spans_in front) =
    index ∙ ap (λ (l : List Segment). prefix_len (begins_before place) (spans_in l)) whole ∙ cut_index 100 place front (Record place n ∷ back) (subst (AreAdjacent 100) whole are) there.1.0.there in
    let spans : spans_in segments ≡ spans_in front ++ span_of place n ∷ spans_in back = ap spans_in whole ∙ spans_append front (Record place n ∷ back) in
    record {
      inside = omega (arith, at_is, ap length spans, length-append (spans_in front) (span_of place n ∷ spans_in back));
      is = λ x read. read ∙ ap (λ (l : List Span). get_or l at x) spans ∙ get_at (spans_in front) (span_of place n) (spans_in back) at x at_is;
    }

-- the records so far, with one segment more
pub spans_next : (segments : List Segment) (k : ℕ) (x d : Segment) → k < length segments → x ≡ get_or segments k d → spans_in (take (k + 1) segments) ≡ spans_in (take k segments) ++ spans_in (x ∷ [])
spans_next segments k x d lt read =
    ap (λ (n : ℕ). spans_in (take n segments)) (let e : k + 1 ≡ suc k = omega arith in e)
    ∙ ap spans_in (take-suc segments k d lt ∙ ap (λ (s : Segment). take k segments ++ s ∷ []) (sym read)) ∙ spans_append (take k segments) (x ∷ [])

-- a record goes to its index among them
spans_rest : (b : Bool) (place n : ℕ) (segments : List Segment) → spans_in (cond b segments (Gap place n ∷ segments)) ≡ spans_in segments
spans_rest true place n segments = refl
spans_rest false place n segments = refl

pub spans_with : (segments : List Segment) (place n at : ℕ) → AreSegments segments → HasGapFor (gaps_in segments) place n → at ≡ prefix_len (begins_before place) (spans_in segments)
    → (insert (spans_in segments) at (span_of place n) ≡ spans_in (with_segment place n segments)) × (at ≤ length (spans_in segments))
spans_with segments place n at shape fit index =
    let c = split 100 segments place n shape.adjacent fit in
    let are = subst (AreAdjacent 100) c.is shape.adjacent in
    let there = adjacent_cut 100 c.front (Gap place c.m ∷ c.back) are in
    let at_is : at ≡ length (spans_in c.front) =
    index ∙ ap (λ (l : List Segment). prefix_len (begins_before place) (spans_in l)) c.is ∙ cut_index 100 place c.front (Gap place c.m ∷ c.back) are there.1.0.there in
    let spans : spans_in segments ≡ spans_in c.front ++ spans_in c.back = ap spans_in c.is ∙ spans_append c.front (Gap place c.m ∷ c.back) in
    let after : spans_in (with_segment place n segments) ≡ spans_in c.front ++ span_of place n ∷ spans_in c.back =
    ap spans_in c.with_is ∙ spans_append c.front (Record place n ∷ rest_of_gap (place + n) (c.m - n) c.back)
    ∙ ap (λ (l : List Span). spans_in c.front ++ span_of place n ∷ l) (spans_rest (eqb (c.m - n) 0) (place + n) (c.m - n) c.back) in (
      ap (λ (l : List Span). insert l at (span_of place n)) spans ∙ insert_at (spans_in c.front) (spans_in c.back) at (span_of place n) at_is ∙ sym after,
      omega (arith, at_is, ap length spans, length-append (spans_in c.front) (spans_in c.back)),
    )

-- ---- the gap over a byte

pub over_at : (p byte : ℕ) (front : List Segment) (g : FreeGap) (rest : List FreeGap) → AreAdjacent p front → segments_end p front ≤ byte → lies_in byte g ≡ true → gap_over byte (gaps_in front ++ g ∷ rest) ≡ Some g
over_at p byte [] g rest are le holds = rw holds refl
over_at p byte (Record q n ∷ front) g rest are le holds = over_at (p + n) byte front g rest are.1 le holds
over_at p byte (Gap q n ∷ front) g rest are le holds =
    let reach = end_behind (p + n) front in
    let no : lies_in byte (gap_of q n) ≡ false = grind (arith, nat_tests, reach, le, are.0.there) in
    rw no (over_at (p + n) byte front g rest are.1 le holds)

over_past : (p byte : ℕ) (segments : List Segment) → AreAdjacent p segments → segments_end p segments ≤ byte → gap_over byte (gaps_in segments) ≡ None
over_past p byte [] are le = refl
over_past p byte (Record q n ∷ segments) are le = over_past (p + n) byte segments are.1 le
over_past p byte (Gap q n ∷ segments) are le =
    let reach = end_behind (p + n) segments in
    let no : lies_in byte (gap_of q n) ≡ false = grind (arith, nat_tests, reach, le, are.0.there) in
    rw no (over_past (p + n) byte segments are.1 le)

-- What the code finds at the place of a record that is put.
pub record Resting (segments : List Segment) (place n : ℕ) (found : Option FreeGap) : Type 0 where
  pub none : found ≡ None → place ≡ file_end segments
  pub short : (g : FreeGap) → found ≡ Some g → n ≤ g.length
  pub rest : (g : FreeGap) → found ≡ Some g → HasRest segments place n (g.length - n)

in_gap : (segments : List Segment) (place n : ℕ) → AreSegments segments → HasGapFor (gaps_in segments) place n → Resting segments place n (gap_over place (gaps_in segments))
in_gap segments place n shape fit =
    let c = split 100 segments place n shape.adjacent fit in
    let there = adjacent_cut 100 c.front (Gap place c.m ∷ c.back) (subst (AreAdjacent 100) c.is shape.adjacent) in
    let yes : lies_in place (gap_of place c.m) ≡ true = grind (arith, nat_tests, there.1.0.some) in
    let over : gap_over place (gaps_in segments) ≡ Some (gap_of place c.m) =
    ap (λ (l : List Segment). gap_over place (gaps_in l)) c.is ∙ ap (gap_over place) (gaps_append c.front (Gap place c.m ∷ c.back))
    ∙ over_at 100 place c.front (gap_of place c.m) (gaps_in c.back) there.0 (omega (arith, there.1.0.there)) yes in
    let rest = has_rest segments place n c in
    record {
      none = λ is. absurd (none-some (gap_of place c.m) (sym is ∙ over));
      short = λ g is. let same : gap_of place c.m ≡ g = same_Some (gap_of place c.m) g (sym over ∙ is) in omega (arith, ap (λ (h : FreeGap). h.length) same, c.fit);
      rest = λ g is. let same : gap_of place c.m ≡ g = same_Some (gap_of place c.m) g (sym over ∙ is) in subst (λ (h : FreeGap). HasRest segments place n (h.length - n)) same rest;
    }

at_end : (segments : List Segment) (place n : ℕ) → AreSegments segments → place ≡ file_end segments → Resting segments place n (gap_over place (gaps_in segments))
at_end segments place n shape end =
    let over : gap_over place (gaps_in segments) ≡ None = over_past 100 place segments shape.adjacent (omega (arith, end)) in
    record { none = λ is. end; short = λ g is. absurd (none-some g (sym over ∙ is)); rest = λ g is. absurd (none-some g (sym over ∙ is)) }

pub resting : (segments : List Segment) (place n : ℕ) (found : Option FreeGap) → AreSegments segments → IsPlaceFor segments n place → found ≡ gap_over place (gaps_in segments) → Resting segments place n found
resting segments place n found shape place_is is =
    subst (Resting segments place n) (sym is) (⊎_elim (in_gap segments place n shape) (at_end segments place n shape) (place_free segments n place place_is))

-- ---- what a put leaves

pub keeps_end : (segments : List Segment) (spans new : List Span) (gaps : List FreeGap) (end n : ℕ) → Kept segments spans gaps end → 4 ≤ n → n % 4 ≡ 0
    → new ≡ spans ++ span_of end n ∷ [] → Keeps (segments ++ Record (file_end segments) n ∷ []) new gaps (end + n)
keeps_end segments spans new gaps end n k some aligned is = keeps (segments ++ Record (file_end segments) n ∷ []) new gaps (end + n) (record {
  shape = end_shape segments n k.shape some aligned;
  records_are = is ∙ (λ i. k.records_are i ++ span_of (k.end_is i) n ∷ []) ∙ sym (spans_append segments (Record (file_end segments) n ∷ []));
  gaps_are = k.gaps_are ∙ sym (gaps_end segments (file_end segments) n);
  end_is = ap (λ (e : ℕ). e + n) k.end_is ∙ sym (end-append 100 segments (Record (file_end segments) n ∷ []));
})

pub keeps_gap : (segments : List Segment) (spans new : List Span) (gaps after : List FreeGap) (end place n at : ℕ) → Kept segments spans gaps end → 4 ≤ n → n % 4 ≡ 0
    → HasGapFor (gaps_in segments) place n → at ≡ prefix_len (begins_before place) (spans_in segments) → new ≡ insert spans at (span_of place n) → after ≡ taken place n gaps → Keeps (with_segment place n segments) new after end
keeps_gap segments spans new gaps after end place n at k some aligned fit index is after_is =
    let c = split 100 segments place n k.shape.adjacent fit in
    keeps (with_segment place n segments) new after end (record {
      shape = gap_shape segments place n c k.shape some aligned;
      records_are = is ∙ ap (λ (l : List Span). insert l at (span_of place n)) k.records_are ∙ (spans_with segments place n at k.shape fit index).0;
      gaps_are = after_is ∙ ap (taken place n) k.gaps_are ∙ sym (gaps_with place n segments);
      end_is = k.end_is ∙ sym (gap_end_same segments place n c k.shape some aligned);
    })

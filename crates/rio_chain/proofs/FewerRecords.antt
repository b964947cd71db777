-- Segments of a file without one record: their form, what is free, and which records there are.
use Rattle.std.proofs.Common.{◌≡◌, ℕ, zero, suc, ◌+◌, ◌-◌, ◌%◌, ◌<◌, ◌≤◌, Bool, true, false, cond, eqb, ltb, List, [], ◌∷◌, ◌++◌, length, length-append, map, take, Option, Some, None, refl, sym, ap, subst, ◌∙◌, arith}
use Rattle.std.proofs.{lemmas.Bool.{eq-eqb, ne_eqb, Decides.{nat_tests}}, lemmas.List.{take_at}}
use Rattle.std.specs.{List.{slice_get}, Set.{remove_key}}
use Rattle.rio_free.specs.{Gaps.{gap_end, gap_of, given, joined}, declared.gap.Gap.{Gap as FreeGap}}
use Rattle.rio_chain.specs.declared.segment.Segment.{Segment, TheVariants.{Record, Gap}}
use Rattle.rio_chain.specs.Adjoining.{AreAdjacent, AreGapsApart, AreSegments, BeginsAt, BeginsWithRecord, segment_length, segment_place, segments_end}
use Rattle.rio_chain.specs.{Segments.{Link, RecordAt, GapAt, segment_of}, Changes.{records_among, with_gap, without_record}, Placing.{FreeSpace, file_end, gaps_in, record_count, space_of}, Releasing.{with_free, without_segment}}
use Rattle.rio_chain.specs.FewerRecords.{IsLeftByReleases, KeepsOtherRecords, KeepsSegments, drawn_in, drawn_to, freed, is_record_at}

-- ---- the form

adjacent_free : (p n : ℕ) (segments : List Segment) → 4 ≤ n → n % 4 ≡ 0 → AreAdjacent (p + n) segments → AreAdjacent p (with_free p n segments)
adjacent_free p n [] some aligned are = tt
adjacent_free p n (Record q m ∷ segments) some aligned are = (record { there = refl; some = some; aligned = aligned }, are)
adjacent_free p n (Gap q m ∷ segments) some aligned are = (
  record { there = refl; some = omega (arith, some); aligned = omega (arith, aligned, are.0.aligned) },
  subst (λ (r : ℕ). AreAdjacent r segments) (let e : p + n + m ≡ p + (n + m) = omega arith in e) are.1,
)

adjacent_at : (p q n : ℕ) (segments : List Segment) → BeginsAt p (Record q n) → AreAdjacent (p + n) segments → AreAdjacent p (with_free q n segments)
adjacent_at p q n segments begins are = subst (λ (r : ℕ). AreAdjacent p (with_free r n segments)) (sym begins.there) (adjacent_free p n segments begins.some begins.aligned are)

adjacent_without : (place p : ℕ) (segments : List Segment) → AreAdjacent p segments → AreAdjacent p (without_segment place segments)
adjacent_without place p [] are = tt
adjacent_without place p (Record q n ∷ segments) are = by (eqb q place) (adjacent_without place (p + n) segments are.1)
  where
    by : (b : Bool) → AreAdjacent (p + n) (without_segment place segments) → AreAdjacent p (cond b (with_free q n segments) (Record q n ∷ without_segment place segments))
    by true ih = adjacent_at p q n segments are.0 are.1
    by false ih = (are.0, ih)
adjacent_without place p (Gap q n ∷ segments) are =
    adjacent_at p q n (without_segment place segments) (record { there = are.0.there; some = are.0.some; aligned = are.0.aligned }) (adjacent_without place (p + n) segments are.1)

apart_free : (p n : ℕ) (segments : List Segment) → AreGapsApart segments → AreGapsApart (with_free p n segments)
apart_free p n [] apart = tt
apart_free p n (Record q m ∷ segments) apart = (tt, apart)
apart_free p n (Gap q m ∷ segments) apart = apart

apart_without : (place : ℕ) (segments : List Segment) → AreGapsApart segments → AreGapsApart (without_segment place segments)
apart_without place [] apart = tt
apart_without place (Record q n ∷ segments) apart = by (eqb q place) (apart_without place segments apart)
  where
    by : (b : Bool) → AreGapsApart (without_segment place segments) → AreGapsApart (cond b (with_free q n segments) (Record q n ∷ without_segment place segments))
    by true ih = apart_free q n segments apart
    by false ih = ih
apart_without place (Gap q n ∷ segments) apart = apart_free q n (without_segment place segments) (apart_without place segments apart.1)

first_without : (place p : ℕ) (segments : List Segment) → p < place → AreAdjacent p segments → BeginsWithRecord segments → BeginsWithRecord (without_segment place segments)
first_without place p [] later are first = absurd first
first_without place p (Gap q n ∷ segments) later are first = absurd first
first_without place p (Record q n ∷ segments) later are first = let other : eqb q place ≡ false = ne_eqb _ _ (omega (arith, later, are.0.there)) in rw other tt

pub shape_without : (place : ℕ) (segments : List Segment) → 100 < place → AreSegments segments → AreSegments (without_segment place segments)
shape_without place segments later shape = record {
  first = first_without place 100 segments later shape.adjacent shape.first;
  adjacent = adjacent_without place 100 segments shape.adjacent;
  apart = apart_without place segments shape.apart;
}

-- ---- gaps and END, with free bytes in front

count_free : (p m : ℕ) (segments : List Segment) → record_count (with_free p m segments) ≡ record_count segments
count_free p m [] = refl
count_free p m (Record q k ∷ segments) = refl
count_free p m (Gap q k ∷ segments) = refl

-- all gaps begin behind a place
abbrev Past : ℕ → List FreeGap → Type 0
Past low [] = Unit {0}
Past low (g ∷ gaps) = low < g.place

past : (p low : ℕ) (segments : List Segment) → AreAdjacent p segments → low < p → Past low (gaps_in segments)
past p low [] are lt = tt
past p low (Record q m ∷ segments) are lt = past (p + m) low segments are.1 (omega (arith, lt))
past p low (Gap q m ∷ segments) are lt = omega (arith, lt, are.0.there)

past_before : (low : ℕ) (gaps : List FreeGap) (last : FreeGap) → Past low gaps → low < last.place → Past low (gaps ++ last ∷ [])
past_before low [] last far lt = lt
past_before low (g ∷ gaps) last far lt = far

joined_past : (g : FreeGap) (gaps : List FreeGap) → Past (gap_end g) gaps → joined g gaps ≡ g ∷ gaps
joined_past g [] far = refl
joined_past g (h ∷ gaps) far = let other : eqb (gap_end g) h.place ≡ false = ne_eqb _ _ (omega (arith, far)) in rw other refl

given_past : (g : FreeGap) (gaps : List FreeGap) → Past g.place gaps → given g gaps ≡ joined g gaps
given_past g [] far = refl
given_past g (h ∷ gaps) far = let no : ltb h.place g.place ≡ false = grind (arith, nat_tests, far) in rw no refl

abbrev AreSome : List Segment → Type 0
AreSome [] = ⊥
AreSome (s ∷ segments) = Unit {0}

gaps_free : (q m : ℕ) (segments : List Segment) → AreSome segments → AreAdjacent (q + m) segments → gaps_in (with_free q m segments) ≡ joined (gap_of q m) (gaps_in segments)
gaps_free q m [] some are = absurd some
gaps_free q m (Record r k ∷ segments) some are = sym (joined_past (gap_of q m) (gaps_in segments) (past (q + m + k) (q + m) segments are.1 (omega (arith, are.0.some))))
gaps_free q m (Gap r k ∷ segments) some are = let same : eqb (q + m) r ≡ true = eq-eqb _ _ (sym are.0.there) in rw same refl

free_some : (q m : ℕ) (segments : List Segment) → AreSome segments → AreSome (with_free q m segments)
free_some q m [] some = absurd some
free_some q m (Record r k ∷ segments) some = tt
free_some q m (Gap r k ∷ segments) some = tt

end_le : (p : ℕ) (segments : List Segment) → p ≤ segments_end p segments
end_le p [] = omega arith
end_le p (s ∷ segments) = omega (arith, end_le (p + segment_length s) segments)

-- free bytes in front are within the segments
end_free : (p q m : ℕ) (segments : List Segment) → AreSome segments → segments_end p (with_free q m segments) ≡ segments_end (p + m) segments
end_free p q m [] some = absurd some
end_free p q m (Record r k ∷ segments) some = refl
end_free p q m (Gap r k ∷ segments) some = ap (λ (e : ℕ). segments_end e segments) (let e : p + (m + k) ≡ p + m + k = omega arith in e)

-- ---- where no gap reaches END

gap_before_end : (p : ℕ) (segments : List Segment) → AreAdjacent p segments → AreGapsApart segments → (k : ℕ) (g : FreeGap) → slice_get (gaps_in segments) k ≡ Some g → gap_end g < segments_end p segments
gap_before_end p [] are apart k g got = absurd cc
gap_before_end p (Record q m ∷ segments) are apart k g got = gap_before_end (p + m) segments are.1 apart k g got
gap_before_end p (Gap q m ∷ []) are apart k g got = absurd apart.0
gap_before_end p (Gap q m ∷ Gap r j ∷ segments) are apart k g got = absurd apart.0
gap_before_end p (Gap q m ∷ Record r j ∷ segments) are apart zero g got =
    let same : gap_of q m ≡ g = cc in
    omega (arith, ap gap_end same, are.0.there, are.1.0.some, end_le (p + m + j) segments)
gap_before_end p (Gap q m ∷ Record r j ∷ segments) are apart (suc k) g got = gap_before_end (p + m) (Record r j ∷ segments) are.1 apart.1 k g got

pub none_drawn : (p : ℕ) (segments : List Segment) → AreAdjacent p segments → AreGapsApart segments
    → drawn_in (gaps_in segments) (segments_end p segments) ≡ record { gaps = gaps_in segments; end = segments_end p segments }
none_drawn p segments are apart = by (slice_get (gaps_in segments) (length (gaps_in segments) - 1)) refl
  where
    by : (o : Option FreeGap) → slice_get (gaps_in segments) (length (gaps_in segments) - 1) ≡ o
        → drawn_to (gaps_in segments) (segments_end p segments) o ≡ record { gaps = gaps_in segments; end = segments_end p segments }
    by None got = refl
    by (Some last) got =
        let before = gap_before_end p segments are apart (length (gaps_in segments) - 1) last got in
        let other : eqb (gap_end last) (segments_end p segments) ≡ false = ne_eqb _ _ (omega (arith, before)) in
        rw other refl

-- ---- where the last gap reaches END

last_there : (gaps : List FreeGap) (last : FreeGap) (k : ℕ) → k ≡ length gaps → slice_get (gaps ++ last ∷ []) k ≡ Some last
last_there [] last zero is = refl
last_there [] last (suc k) is = absurd (omega (arith, is))
last_there (g ∷ gaps) last zero is = absurd (omega (arith, is))
last_there (g ∷ gaps) last (suc k) is = last_there gaps last k (omega (arith, is))

last_drawn : (gaps : List FreeGap) (last : FreeGap) (end : ℕ) → gap_end last ≡ end → drawn_in (gaps ++ last ∷ []) end ≡ record { gaps = gaps; end = last.place }
last_drawn gaps last end reaches =
    let at : length (gaps ++ last ∷ []) - 1 ≡ length gaps = omega (arith, length-append gaps (last ∷ [])) in
    let kept : take (length (gaps ++ last ∷ []) - 1) (gaps ++ last ∷ []) ≡ gaps = take_at gaps (last ∷ []) (length (gaps ++ last ∷ []) - 1) (sym at) in
    let same : eqb (gap_end last) end ≡ true = eq-eqb _ _ reaches in
    ap (drawn_to (gaps ++ last ∷ []) end) (last_there gaps last (length (gaps ++ last ∷ []) - 1) at)
    ∙ (rw same refl)
    ∙ ap (λ (gs : List FreeGap). let space : FreeSpace = record { gaps = gs; end = last.place } in space) kept

-- ---- a record among segments

module _ (place n : ℕ) (back : List Segment) where
  abbrev among : List Segment → List Segment
  among front = front ++ Record place n ∷ back

  reaches : (p : ℕ) (front : List Segment) → AreAdjacent p (among front) → p ≤ place
  reaches p [] are = omega (arith, are.0.there)
  reaches p (s ∷ front) are = omega (arith, reaches (p + segment_length s) front are.1)

  before : (p : ℕ) (s : Segment) (front : List Segment) → AreAdjacent p (s ∷ among front) → segment_place s + segment_length s ≤ place
  before p s front are = omega (arith, are.0.there, reaches (p + segment_length s) front are.1)

  -- another segment stands in front of it
  passes : (p : ℕ) (s : Segment) (front : List Segment) → AreAdjacent p (s ∷ among front) → eqb (segment_place s) place ≡ false
  passes p s front are = let le = before p s front are in ne_eqb _ _ (omega (arith, le, are.0.some))

  own : eqb place place ≡ true
  own = eq-eqb place place refl

  pub count_without : (p : ℕ) (front : List Segment) → AreAdjacent p (among front) → record_count (without_segment place (among front)) + 1 ≡ record_count (among front)
  count_without p [] are = let same = own in rw same (ap (λ (k : ℕ). k + 1) (count_free place n back))
  count_without p (Record q m ∷ front) are =
      let other : eqb q place ≡ false = passes p (Record q m) front are in
      rw other (ap (λ (k : ℕ). k + 1) (count_without (p + m) front are.1))
  count_without p (Gap q m ∷ front) are = ap (λ (k : ℕ). k + 1) (count_free q m (without_segment place (among front))) ∙ count_without (p + m) front are.1

  -- segments stand behind it
  module _ (some : AreSome back) where
    without_some : (p : ℕ) (front : List Segment) → AreAdjacent p (among front) → AreSome (without_segment place (among front))
    without_some p [] are = let same = own in rw same (free_some place n back some)
    without_some p (Record q m ∷ front) are = let other : eqb q place ≡ false = passes p (Record q m) front are in rw other tt
    without_some p (Gap q m ∷ front) are = free_some q m (without_segment place (among front)) (without_some (p + m) front are.1)

    gaps_given : (p : ℕ) (front : List Segment) → AreAdjacent p (among front) → given (gap_of place n) (gaps_in (among front)) ≡ gaps_in (without_segment place (among front))
    gaps_given p [] are =
        let same = own in
        let there : AreAdjacent (place + n) back = subst (λ (q : ℕ). AreAdjacent (q + n) back) (sym are.0.there) are.1 in
        rw same (given_past (gap_of place n) (gaps_in back) (past (place + n) place back there (omega (arith, are.0.some))) ∙ sym (gaps_free place n back some there))
    gaps_given p (Record q m ∷ front) are = let other : eqb q place ≡ false = passes p (Record q m) front are in rw other (gaps_given (p + m) front are.1)
    gaps_given p (Gap q m ∷ front) are =
        let le = before p (Gap q m) front are in
        let yes : ltb q place ≡ true = grind (arith, nat_tests, le, are.0.some) in
        let there : AreAdjacent (q + m) (among front) = subst (λ (r : ℕ). AreAdjacent (r + m) (among front)) (sym are.0.there) are.1 in
        rw yes (ap (joined (gap_of q m)) (gaps_given (p + m) front are.1)
        ∙ sym (gaps_free q m (without_segment place (among front)) (without_some (p + m) front are.1) (adjacent_without place (q + m) (among front) there)))

    end_same : (p : ℕ) (front : List Segment) → AreAdjacent p (among front) → segments_end p (without_segment place (among front)) ≡ segments_end p (among front)
    end_same p [] are = let same = own in rw same (end_free p place n back some)
    end_same p (Record q m ∷ front) are = let other : eqb q place ≡ false = passes p (Record q m) front are in rw other (end_same (p + m) front are.1)
    end_same p (Gap q m ∷ front) are = end_free p q m (without_segment place (among front)) (without_some (p + m) front are.1) ∙ end_same (p + m) front are.1

    pub space_amid : (front : List Segment) → AreAdjacent 100 (among front) → AreGapsApart (among front) → space_of (without_segment place (among front)) ≡ freed place n (space_of (among front))
    space_amid front are apart =
        let left = without_segment place (among front) in
        let gaps = gaps_given 100 front are in
        let end = sym (end_same 100 front are) in
        sym ((λ i. drawn_in (gaps i) (end i))
        ∙ none_drawn 100 left (adjacent_without place 100 (among front) are) (apart_without place (among front) apart))

-- ---- the last record

-- The last of the gaps that its bytes are given to reaches END, and END is at its place then.
pub record IsLastGone (p place n : ℕ) (before after : List Segment) : Type 0 where
  pub last : FreeGap
  pub given_is : given (gap_of place n) (gaps_in before) ≡ gaps_in after ++ last ∷ []
  pub reaches : gap_end last ≡ segments_end p before
  pub end : segments_end p after ≡ last.place

module _ (place n : ℕ) where
  abbrev ended : List Segment → List Segment
  ended front = front ++ Record place n ∷ []

  gone_behind : (p q m : ℕ) (front : List Segment) → AreAdjacent p (Record q m ∷ ended front) → IsLastGone (p + m) place n (ended front) (without_segment place (ended front))
      → IsLastGone p place n (Record q m ∷ ended front) (without_segment place (Record q m ∷ ended front))
  gone_behind p q m front are g =
      let other : eqb q place ≡ false = passes place n [] p (Record q m) front are in
      rw other (record { last = g.last; given_is = g.given_is; reaches = g.reaches; end = g.end })

  -- a gap in front of another record
  gone_apart : (p q m r j : ℕ) (front : List Segment) → AreAdjacent p (Gap q m ∷ Record r j ∷ ended front) → IsLastGone (p + m + j) place n (ended front) (without_segment place (ended front))
      → IsLastGone p place n (Gap q m ∷ Record r j ∷ ended front) (without_segment place (Gap q m ∷ Record r j ∷ ended front))
  gone_apart p q m r j front are g =
      let le = before place n [] p (Gap q m) (Record r j ∷ front) are in
      let yes : ltb q place ≡ true = grind (arith, nat_tests, le, are.0.some) in
      let other : eqb r place ≡ false = passes place n [] (p + m) (Record r j) front are.1 in
      let left = without_segment place (ended front) in
      let far : Past (q + m) (gaps_in left) = past (p + m + j) (q + m) left (adjacent_without place (p + m + j) (ended front) are.1.1) (omega (arith, are.0.there, are.1.0.some)) in
      let behind : q + m < g.last.place = omega (arith, are.0.there, are.1.0.some, g.end, end_le (p + m + j) left) in
      rw other (record {
        last = g.last;
        given_is = rw yes (ap (joined (gap_of q m)) g.given_is ∙ joined_past (gap_of q m) (gaps_in left ++ g.last ∷ []) (past_before (q + m) (gaps_in left) g.last far behind));
        reaches = g.reaches;
        end = g.end;
      })

  gone_alone : (p : ℕ) → AreAdjacent p (ended []) → IsLastGone p place n (ended []) (without_segment place (ended []))
  gone_alone p are =
      let same = own place n [] in
      rw same (record { last = gap_of place n; given_is = refl; reaches = ap (λ (q : ℕ). q + n) are.0.there; end = sym are.0.there })

  -- a gap in front of it
  gone_beside : (p q m : ℕ) → AreAdjacent p (Gap q m ∷ ended []) → IsLastGone p place n (Gap q m ∷ ended []) (without_segment place (Gap q m ∷ ended []))
  gone_beside p q m are =
      let same = own place n [] in
      let yes : ltb q place ≡ true = grind (arith, nat_tests, are.0.there, are.0.some, are.1.0.there) in
      let touch : eqb (q + m) place ≡ true = eq-eqb _ _ (omega (arith, are.0.there, are.1.0.there)) in
      rw same (record { last = gap_of q (m + n); given_is = rw (yes, touch) refl; reaches = omega (arith, are.0.there); end = sym are.0.there })

  last_gone : (p : ℕ) (front : List Segment) → AreAdjacent p (ended front) → AreGapsApart (ended front) → IsLastGone p place n (ended front) (without_segment place (ended front))
  last_gone p [] are apart = gone_alone p are
  last_gone p (Record q m ∷ front) are apart = gone_behind p q m front are (last_gone (p + m) front are.1 apart)
  last_gone p (Gap q m ∷ []) are apart = gone_beside p q m are
  last_gone p (Gap q m ∷ Gap r j ∷ front) are apart = absurd apart.0
  last_gone p (Gap q m ∷ Record r j ∷ front) are apart = gone_apart p q m r j front are (last_gone (p + m + j) front are.1.1 apart.1)

  space_last : (front : List Segment) → AreAdjacent 100 (ended front) → AreGapsApart (ended front) → space_of (without_segment place (ended front)) ≡ freed place n (space_of (ended front))
  space_last front are apart =
      let g = last_gone 100 front are apart in
      let left = without_segment place (ended front) in
      let end = sym g.end in
      sym (ap (λ (gs : List FreeGap). drawn_in gs (file_end (ended front))) g.given_is ∙ last_drawn (gaps_in left) g.last (file_end (ended front)) g.reaches
      ∙ (λ i. let space : FreeSpace = record { gaps = gaps_in left; end = end i } in space))

  -- where no segment stands behind the record, and where some do
  pub space_without : (front back : List Segment) → AreAdjacent 100 (front ++ Record place n ∷ back) → AreGapsApart (front ++ Record place n ∷ back)
      → space_of (without_segment place (front ++ Record place n ∷ back)) ≡ freed place n (space_of (front ++ Record place n ∷ back))
  space_without front [] are apart = space_last front are apart
  space_without front (s ∷ back) are apart = space_amid place n (s ∷ back) tt front are apart

-- ---- END

end_free_low : (p q m : ℕ) (segments : List Segment) → segments_end p (with_free q m segments) ≤ segments_end (p + m) segments
end_free_low p q m [] = omega arith
end_free_low p q m (s ∷ segments) = omega (arith, end_free p q m (s ∷ segments) tt)

end_without : (place p : ℕ) (segments : List Segment) → segments_end p (without_segment place segments) ≤ segments_end p segments
end_without place p [] = omega arith
end_without place p (Record q n ∷ segments) = by (eqb q place) (end_without place (p + n) segments)
  where
    by : (b : Bool) → segments_end (p + n) (without_segment place segments) ≤ segments_end (p + n) segments
        → segments_end p (cond b (with_free q n segments) (Record q n ∷ without_segment place segments)) ≤ segments_end (p + n) segments
    by true ih = end_free_low p q n segments
    by false ih = ih
end_without place p (Gap q n ∷ segments) = omega (arith, end_free_low p q n (without_segment place segments), end_without place (p + n) segments)

pub left_by_releases : IsLeftByReleases
left_by_releases front back place n shape later = record {
  shape = shape_without place (front ++ Record place n ∷ back) later shape;
  space = space_without place n front back shape.adjacent shape.apart;
  end = end_without place 100 (front ++ Record place n ∷ back);
  count = count_without place n back 100 front shape.adjacent;
}

-- ---- records with their bytes

among_free : (q m : ℕ) (links : List Link) → records_among (with_gap q m links) ≡ records_among links
among_free q m [] = refl
among_free q m (RecordAt p bytes ∷ links) = refl
among_free q m (GapAt p n ∷ links) = refl

pub keeps_other_records : KeepsOtherRecords
keeps_other_records [] place = refl
keeps_other_records (RecordAt p bytes ∷ links) place = by (eqb p place) (keeps_other_records links place)
  where
    by : (b : Bool) → records_among (without_record place links) ≡ remove_key (is_record_at place) (records_among links)
        → records_among (cond b (with_gap p (length bytes) links) (RecordAt p bytes ∷ without_record place links))
        ≡ cond b (records_among links) (RecordAt p bytes ∷ remove_key (is_record_at place) (records_among links))
    by true ih = among_free p (length bytes) links
    by false ih = ap (λ (l : List Link). RecordAt p bytes ∷ l) ih
keeps_other_records (GapAt p n ∷ links) place = among_free p n (without_record place links) ∙ keeps_other_records links place

segments_free : (place n : ℕ) (links : List Link) → map segment_of (with_gap place n links) ≡ with_free place n (map segment_of links)
segments_free place n [] = refl
segments_free place n (RecordAt p bytes ∷ links) = refl
segments_free place n (GapAt p m ∷ links) = refl

pub keeps_segments : KeepsSegments
keeps_segments [] place = refl
keeps_segments (RecordAt p bytes ∷ links) place = by (eqb p place) (keeps_segments links place)
  where
    by : (b : Bool) → map segment_of (without_record place links) ≡ without_segment place (map segment_of links)
        → map segment_of (cond b (with_gap p (length bytes) links) (RecordAt p bytes ∷ without_record place links))
        ≡ cond b (with_free p (length bytes) (map segment_of links)) (Record p (length bytes) ∷ without_segment place (map segment_of links))
    by true ih = segments_free p (length bytes) links
    by false ih = ap (λ (l : List Segment). Record p (length bytes) ∷ l) ih
keeps_segments (GapAt p n ∷ links) place = segments_free p n (without_record place links) ∙ ap (with_free p n) (keeps_segments links place)

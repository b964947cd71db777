-- The word by which a record becomes free, and the file that has it.
use Rattle.std.proofs.Common.{◌≡◌, inl, inr, ⊎_elim, ℕ, ◌+◌, ◌-◌, ◌%◌, ◌^◌, ◌<◌, ◌≤◌, List, [], ◌∷◌, ◌++◌, length, map, replicate, get_or, Option, Some, None, refl, sym, ap, subst, ◌∙◌, arith}
use Rattle.std.proofs.{lemmas.List.{length-replicate}, lemmas.Option.{none-some, same_Some}}
use Rattle.std.specs.List.{prefix_len, remove}
use Rattle.byteorder.specs.{Endian.{big_bytes}, Numbers.{length-bytes_high_first}}
use Rattle.rio_free.specs.{Gaps.{HasGapFor, IsApart, gap_end, gap_of, gap_over, given, taken}, declared.gap.Gap.{Gap as FreeGap}}
use Rattle.rio_host.specs.{Host.{View, Elapses}, Image.{Put}}
use Rattle.rio_host.proofs.Moments.{elapses_as}
use Rattle.rio_chain.specs.{declared.segment.Segment.{Segment, TheVariants.{Record, Gap}}, declared.segment.Span.{Span}, Adjoining.{AreAdjacent, AreGapsApart, AreSegments, BeginsWithRecord, segments_end}}
use Rattle.rio_chain.specs.Segments.{Link, RecordAt, GapAt, chain_end, end_from, segment_of, HasWord, HoldsEnd, IsChain}
use Rattle.rio_chain.specs.{Chains.{HasChain, HasRecordSegment}, Changes.{IsFreedBy, free_links, free_word, without_record}, Merging.{span_of, spans_in}, Placing.{file_end, gaps_in}, Releasing.{without_segment}}
use Rattle.rio_chain.specs.Stops.{IsEither, IsWordOrNot, KeepsFront}
use Rattle.rio_chain.proofs.Words.{word_of_bytes, word_within}
use Rattle.rio_chain.proofs.Chains.{PlainLinks, Spaced, chain_of, end-append, end-le, end_keeps, parts_of, plain-append, plain_cut, plain_keeps}
use Rattle.rio_chain.proofs.{Freed.{Spot, gaps_of, map_without, spot}, Held.{record_cut}, Indices.{remove_at}, PutChain.{map_end}}
use Rattle.rio_chain.proofs.Merged.{Keeps, Kept, begins_before, cut_index, found_at, keeps, spans_append}
use Rattle.rio_chain.proofs.{Placed.{adjacent_cut, end-append as segments-end-append, end-le as segments-end-le}, Releases.{apart_without, bytes_apart, shape_without, spans_without}}

-- ---- the word, and what becomes of gaps and END

freed_by : (links : List Link) (place size word : ℕ) (s : Spot place size links) → BeginsWithRecord (map segment_of links) → 100 < place → chain_end links ≤ 1999999996 → word ≡ free_word s.f.n s.f.back → IsFreedBy links place s.f.start word
freed_by links place size word s first later low is = record {
  front = s.f.front;
  mid = s.f.mid;
  back = s.f.back;
  n = s.f.n;
  is = s.f.is;
  after = s.f.after;
  at_is = s.f.start_is;
  long = s.f.long;
  word_is = is;
  later = s.f.later first later;
  some = s.f.some;
  small = omega (arith, low, s.within);
  aligned = s.f.aligned;
}

-- What the code does with the gap that the bytes are in.
pub record Outcome (place : ℕ) (links : List Link) (segments : List Segment) (gaps : List FreeGap) (gap : FreeGap) : Type 0 where
  pub within : gap_end gap ≤ file_end segments
  pub some : 4 ≤ gap.length
  pub aligned : gap.place % 4 ≡ 0
  pub fit : HasGapFor gaps gap.place gap.length
  pub lowered : file_end segments ≤ gap_end gap → (taken gap.place gap.length gaps ≡ gaps_in (without_segment place segments)) × (gap.place ≡ file_end (without_segment place segments)) × IsFreedBy links place gap.place 0
  pub stays : gap_end gap < file_end segments → (gaps ≡ gaps_in (without_segment place segments)) × (file_end segments ≡ file_end (without_segment place segments)) × IsFreedBy links place gap.place (2 ^ 32 - gap.length)

outcome_of : (place size : ℕ) (links : List Link) (s : Spot place size links) → BeginsWithRecord (map segment_of links) → 100 < place → file_end (map segment_of links) ≤ 1999999996
    → Outcome place links (map segment_of links) (given (gap_of place size) (gaps_of links)) (gap_of s.f.start s.f.n)
outcome_of place size links s first later low = record {
  within = omega (arith, s.within, end);
  some = s.f.some;
  aligned = s.start_aligned;
  fit = s.fit;
  lowered = λ le.
      let reached : chain_end links ≤ s.f.start + s.f.n = omega (arith, le, end) in
      let l = s.lowered reached in (
        l.0 ∙ ap gaps_in (map_without place links),
        sym (after ∙ l.1),
        freed_by links place size 0 s first later (omega (arith, low, end)) (sym (ap (free_word s.f.n) (s.alone reached))),
      );
  stays = λ lt.
      let before : s.f.start + s.f.n < chain_end links = omega (arith, lt, end) in
      let g = s.gap before in
      let b = s.followed before in (
        g.0 ∙ ap gaps_in (map_without place links),
        end ∙ sym g.1 ∙ sym after,
        freed_by links place size (2 ^ 32 - s.f.n) s first later (omega (arith, low, end)) (sym (ap (free_word s.f.n) b.2)),
      );
}
  where
    end : file_end (map segment_of links) ≡ chain_end links
    end = map_end 100 links

    after : file_end (without_segment place (map segment_of links)) ≡ chain_end (without_record place links)
    after = ap file_end (sym (map_without place links)) ∙ map_end 100 (without_record place links)

-- the spot of a record among the segments
spot_in : (links : List Link) (segments : List Segment) (place : ℕ) → segments ≡ map segment_of links → AreSegments segments → (has : HasRecordSegment segments place) → Spot place has.1 links
spot_in links segments place same shape has =
    let c = record_cut links has.0 has.2 place has.1 (sym same ∙ has.3) in
    let whole : AreSegments (map segment_of (c.before ++ RecordAt place c.bytes ∷ c.behind)) = subst AreSegments (same ∙ ap (map segment_of) c.is) shape in
    subst (λ (n : ℕ). Spot place n links) c.long (subst (Spot place (length c.bytes)) (sym c.is) (spot place c.bytes c.before c.behind whole.adjacent whole.apart))

pub outcome : (links : List Link) (segments : List Segment) (place : ℕ) (gaps : List FreeGap) (gap : FreeGap) → segments ≡ map segment_of links → AreSegments segments → (has : HasRecordSegment segments place) → 100 < place → file_end segments ≤ 1999999996
    → gaps ≡ given (gap_of place has.1) (gaps_in segments) → Some gap ≡ gap_over place gaps → Outcome place links segments gaps gap
outcome links segments place gaps gap same shape has later low given_is over =
    let s = spot_in links segments place same shape has in
    let all : gaps ≡ given (gap_of place has.1) (gaps_of links) = given_is ∙ ap (λ (l : List Segment). given (gap_of place has.1) (gaps_in l)) same in
    let is : gap ≡ gap_of s.f.start s.f.n = same_Some gap (gap_of s.f.start s.f.n) (over ∙ ap (gap_over place) all ∙ s.over) in
    subst (λ (x : List Segment). Outcome place links x gaps gap) (sym same)
    (subst (λ (x : List FreeGap). Outcome place links (map segment_of links) x gap) (sym all)
    (subst (Outcome place links (map segment_of links) (given (gap_of place has.1) (gaps_of links))) (sym is)
    (outcome_of place has.1 links s (subst BeginsWithRecord same shape.first) later (subst (λ (x : List Segment). file_end x ≤ 1999999996) same low))))

-- there is such a gap
pub over_some : (links : List Link) (segments : List Segment) (place : ℕ) (gaps : List FreeGap) → segments ≡ map segment_of links → AreSegments segments → (has : HasRecordSegment segments place) → gaps ≡ given (gap_of place has.1) (gaps_in segments)
    → gap_over place gaps ≡ None → ⊥
over_some links segments place gaps same shape has given_is none =
    let s = spot_in links segments place same shape has in
    let all : gaps ≡ given (gap_of place has.1) (gaps_of links) = given_is ∙ ap (λ (l : List Segment). given (gap_of place has.1) (gaps_in l)) same in
    none-some (gap_of s.f.start s.f.n) (sym none ∙ ap (gap_over place) all ∙ s.over)

-- links for segments that hold nothing
abbrev pub link_for : Segment → Link
link_for (Record p n) = RecordAt p (replicate n 0)
link_for (Gap p n) = GapAt p n

links_back : (segments : List Segment) → map segment_of (map link_for segments) ≡ segments
links_back [] = refl
links_back (Record p n ∷ segments) =
    let bytes : List ℕ = replicate n 0 in
    let long : length bytes ≡ n = length-replicate n 0 in
    ap (λ (k : ℕ). Record p k ∷ map segment_of (map link_for segments)) long ∙ ap (λ (l : List Segment). Record p n ∷ l) (links_back segments)
links_back (Gap p n ∷ segments) = ap (λ (l : List Segment). Gap p n ∷ l) (links_back segments)

pub links_for : (segments : List Segment) → segments ≡ map segment_of (map link_for segments)
links_for segments = sym (links_back segments)

-- ---- the file that has it

spaced_apart : (links : List Link) → AreGapsApart (map segment_of links) → Spaced links
spaced_apart [] apart = tt
spaced_apart (RecordAt p bytes ∷ links) apart = spaced_apart links apart
spaced_apart (GapAt p n ∷ []) apart = absurd apart.0
spaced_apart (GapAt p n ∷ GapAt q m ∷ links) apart = absurd apart.0
spaced_apart (GapAt p n ∷ RecordAt q bytes ∷ links) apart = (tt, spaced_apart links apart.1)

module _ (links : List Link) (place at word : ℕ) (f : IsFreedBy links place at word) (apart : AreGapsApart (map segment_of links)) (file : List ℕ) (chain : IsChain links file) where
  four : length (big_bytes 4 word) ≡ 4
  four = length-bytes_high_first 4 word

  whole : PlainLinks file 100 f.front × PlainLinks file (chain_end f.front) (f.mid ++ f.back)
  whole = plain_cut file 100 f.front (f.mid ++ f.back) (subst (PlainLinks file 100) f.is (parts_of links file chain).plain)

  behind : PlainLinks file (at + f.n) f.back
  behind = subst (λ (p : ℕ). PlainLinks file p f.back) f.long (plain_cut file at f.mid f.back (subst (λ (p : ℕ). PlainLinks file p (f.mid ++ f.back)) (sym f.at_is) whole.1)).1

  end_is : chain_end links ≡ end_from (at + f.n) f.back
  end_is = ap chain_end f.is ∙ end-append 100 f.front (f.mid ++ f.back) ∙ ap (λ (p : ℕ). end_from p (f.mid ++ f.back)) (sym f.at_is) ∙ end-append at f.mid f.back ∙ ap (λ (p : ℕ). end_from p f.back) f.long

  pub word_fits : at + 4 ≤ length file
  word_fits = omega (arith, word_within file (chain_end links) 0 chain.ends.zero_word, end_is, end-le (at + f.n) f.back)

  module _ (image : List ℕ) (put : Put at (big_bytes 4 word) file image) where
    freed_front : KeepsFront file image
    freed_front i x low was = put.outside i x (inl (omega (arith, low, f.later))) was

    front_there : PlainLinks image 100 f.front
    front_there = plain_keeps file image 100 f.front freed_front (λ i x low high was. put.outside i x (inl (omega (arith, high, f.at_is))) was) whole.0

    back_there : PlainLinks image (at + f.n) f.back
    back_there = plain_keeps file image (at + f.n) f.back freed_front (λ i x low high was. put.outside i x (inr (omega (arith, low, four, f.some))) was) behind

    free_there : (back : List Link) → f.back ≡ back → PlainLinks image at (free_links at f.n back)
    free_there [] is = tt
    free_there (l ∷ back) is =
        let number : word ≡ 2 ^ 32 - f.n = f.word_is ∙ ap (free_word f.n) is in (
          (
            refl,
            record {
              later = f.later;
              word = subst (HasWord image at) number (word_of_bytes image at word (omega (arith, number, f.some)) put.written);
              some = f.some;
              small = f.small;
              aligned = f.aligned;
            },
          ),
          subst (PlainLinks image (at + f.n)) is back_there,
        )

    end_there : (back : List Link) → f.back ≡ back → HoldsEnd image (end_from at (free_links at f.n back))
    end_there [] is =
        let number : word ≡ 0 = f.word_is ∙ ap (free_word f.n) is in
        record { later = f.later; zero_word = subst (HasWord image at) number (word_of_bytes image at word (omega (arith, number)) put.written) }
    end_there (l ∷ back) is =
        let old : HoldsEnd file (end_from (at + f.n) (l ∷ back)) = subst (HoldsEnd file) (end_is ∙ ap (end_from (at + f.n)) is) chain.ends in
        end_keeps file image (end_from (at + f.n) (l ∷ back)) (λ i x low high was. put.outside i x (inr (omega (arith, low, four, f.some, end-le (at + f.n) (l ∷ back)))) was) old

    pub freed_chain : IsChain (without_record place links) image × KeepsFront file image
    freed_chain = (
      subst (λ (l : List Link). IsChain l image) (sym f.after) (chain_of (f.front ++ free_links at f.n f.back) image (record {
        plain = plain-append image 100 f.front (free_links at f.n f.back) front_there (subst (λ (p : ℕ). PlainLinks image p (free_links at f.n f.back)) f.at_is (free_there f.back refl));
        spaced = spaced_apart (f.front ++ free_links at f.n f.back) (subst AreGapsApart (sym (map_without place links) ∙ ap (map segment_of) f.after) (apart_without place (map segment_of links) apart));
        ends = subst (HoldsEnd image) (ap (λ (p : ℕ). end_from p (free_links at f.n f.back)) f.at_is ∙ sym (end-append 100 f.front (free_links at f.n f.back))) (end_there f.back refl);
      })),
      freed_front,
    )

-- ---- what a stop leaves, and what the host holds

pub free_time : (old new : View) (file : List ℕ) (links : List Link) (segments : List Segment) (place at word : ℕ) → HasChain links segments file → AreSegments segments → IsFreedBy links place at word
    → Elapses old new (IsWordOrNot old file at (big_bytes 4 word)) → Elapses old new (IsEither old file links (without_record place links))
free_time old new file links segments place at word has shape f time = elapses_as (IsEither old file links (without_record place links)) (IsWordOrNot old file at (big_bytes 4 word)) time (λ image said either.
    let apart = subst AreGapsApart has.same shape.apart in
    record {
      links = ⊎_elim (λ same. inl (subst (IsChain links) (sym same) has.chain)) (λ put. inr (freed_chain links place at word f apart file has.chain image put).0) either.image_is;
      front = ⊎_elim (λ same. subst (KeepsFront file) (sym same) (λ i x low was. was)) (λ put. (freed_chain links place at word f apart file has.chain image put).1) either.image_is;
      text = either.text;
    })

pub free_holds : (held : Option (List ℕ)) (file : List ℕ) (links : List Link) (segments : List Segment) (place at word : ℕ) → HasChain links segments file → AreSegments segments → IsFreedBy links place at word
    → (new : List ℕ) × (held ≡ Some new) × Put at (big_bytes 4 word) file new → (new : List ℕ) × (held ≡ Some new) × HasChain (without_record place links) (without_segment place segments) new × KeepsFront file new
free_holds held file links segments place at word has shape f new =
    let freed = freed_chain links place at word f (subst AreGapsApart has.same shape.apart) file has.chain new.0 new.2 in
    (new.0, new.1, record { chain = freed.0; same = ap (without_segment place) has.same ∙ sym (map_without place links) }, freed.1)

pub free_within : (file : List ℕ) (links : List Link) (segments : List Segment) (place at word : ℕ) → HasChain links segments file → AreSegments segments → IsFreedBy links place at word → at ≤ length file
free_within file links segments place at word has shape f = omega (arith, word_fits links place at word f (subst AreGapsApart has.same shape.apart) file has.chain)

-- ---- what a chain keeps then

-- What the code does at the index of the record, and with its bytes.
pub record Releasing (segments : List Segment) (spans : List Span) (gaps : List FreeGap) (place size at : ℕ) : Type 0 where
  pub inside : at < length spans
  pub reads : (x : Span) → x ≡ get_or spans at x → x.length ≡ size
  pub some : 1 ≤ size
  pub within : place + size ≤ file_end segments
  pub apart : IsApart (gap_of place size) gaps
  pub given_is : given (gap_of place size) gaps ≡ given (gap_of place size) (gaps_in segments)

pub releasing : (segments : List Segment) (spans : List Span) (gaps : List FreeGap) (end place at : ℕ) → Kept segments spans gaps end → (has : HasRecordSegment segments place) → at ≡ prefix_len (begins_before place) (spans_in segments) → Releasing segments spans gaps place has.1 at
releasing segments spans gaps end place at k has index =
    let f = found_at segments has.0 has.2 place has.1 at has.3 k.shape.adjacent index in
    let are = subst (AreAdjacent 100) has.3 k.shape.adjacent in
    let there = adjacent_cut 100 has.0 (Record place has.1 ∷ has.2) are in
    record {
      inside = omega (arith, f.inside, ap length k.records_are);
      reads = λ x read. ap (λ (s : Span). s.length) (f.is x (read ∙ ap (λ (l : List Span). get_or l at x) k.records_are));
      some = omega (arith, there.1.0.some);
      within = omega (arith, there.1.0.there, ap file_end has.3, segments-end-append 100 has.0 (Record place has.1 ∷ has.2), segments-end-le (segments_end 100 has.0 + has.1) has.2);
      apart = subst (IsApart (gap_of place has.1)) (ap gaps_in (sym has.3) ∙ sym k.gaps_are) (bytes_apart place has.1 has.2 100 has.0 are);
      given_is = ap (given (gap_of place has.1)) k.gaps_are;
    }

pub keeps_released : (segments : List Segment) (spans new : List Span) (gaps after : List FreeGap) (end low place at : ℕ) → Kept segments spans gaps end → HasRecordSegment segments place → 100 < place → at ≡ prefix_len (begins_before place) (spans_in segments)
    → new ≡ remove spans at → after ≡ gaps_in (without_segment place segments) → low ≡ file_end (without_segment place segments) → Keeps (without_segment place segments) new after low
keeps_released segments spans new gaps after end low place at k has later index is after_is low_is =
    let are = subst (AreAdjacent 100) has.3 k.shape.adjacent in
    let there = adjacent_cut 100 has.0 (Record place has.1 ∷ has.2) are in
    let at_is : at ≡ length (spans_in has.0) = index ∙ ap (λ (l : List Segment). prefix_len (begins_before place) (spans_in l)) has.3 ∙ cut_index 100 place has.0 (Record place has.1 ∷ has.2) are there.1.0.there in
    keeps (without_segment place segments) new after low (record {
      shape = shape_without place segments later k.shape;
      records_are = is ∙ ap (λ (l : List Span). remove l at) (k.records_are ∙ ap spans_in has.3 ∙ spans_append has.0 (Record place has.1 ∷ has.2))
          ∙ remove_at (spans_in has.0) (span_of place has.1) (spans_in has.2) at at_is
          ∙ sym (ap (λ (l : List Segment). spans_in (without_segment place l)) has.3 ∙ spans_without place has.1 has.2 100 has.0 are);
      gaps_are = after_is;
      end_is = low_is;
    })

-- the gaps once the bytes are given
pub given_gaps : (segments : List Segment) (spans : List Span) (gaps after : List FreeGap) (end place at : ℕ) (x : Span) → Kept segments spans gaps end → (has : HasRecordSegment segments place) → at ≡ prefix_len (begins_before place) (spans_in segments)
    → x ≡ get_or spans at x → after ≡ given (gap_of place x.length) gaps → after ≡ given (gap_of place has.1) (gaps_in segments)
given_gaps segments spans gaps after end place at x k has index read is =
    let r = releasing segments spans gaps end place at k has index in
    is ∙ ap (λ (n : ℕ). given (gap_of place n) gaps) (r.reads x read) ∙ r.given_is

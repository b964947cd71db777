-- There are files of the links that releases leave.
use Rattle.std.proofs.Common.{◌≡◌, ◌∙◌, inl, inr, ⊎_elim, ℕ, zero, suc, ◌+◌, ◌-◌, ◌<◌, ◌≤◌, ◌^◌, Bool, true, false, ◌==◌, List, [], ◌∷◌, length, map, take, nat_lt, Option, Some, None, refl, sym, subst, ap, arith}
use Rattle.std.proofs.lemmas.Bool.{and_from, and_parts, cases_lt, eq-eqb, eqb-true, ltb-true, ne_eqb, or_parts}
use Rattle.std.specs.List.{list_all, list_any}
use Rattle.byteorder.specs.Endian.{big_bytes}
use Rattle.rio_free.specs.{Gaps.{gap_end, gap_of, gap_over, given}, declared.gap.Gap.{Gap as FreeGap}}
use Rattle.rio_host.proofs.StopLaws.{patched_put}
use Rattle.rio_host.specs.Stops.{patched}
use Rattle.rio_chain.specs.{Adjoining.{AreSegments}, Chains.{HasRecordSegment}, Changes.{IsFreedBy, without_record}, FewerRecords.{IsLeftWithout}, Placing.{file_end, gaps_in}, Releasing.{without_segment}}
use Rattle.rio_chain.specs.{Segments.{IsChain, Link, segment_of}, declared.segment.Segment.{Segment}}
use Rattle.rio_chain.proofs.{FewerRecords.{keeps_segments, left_by_releases}, Freeing.{Outcome, freed_chain, outcome, over_some}}
use Rattle.rio_state.specs.Closing.{end_limit}
use Rattle.rio_effect.specs.{Changes.{all_changed}, Garbage.{releases}}
use Rattle.rio_effect.proofs.Held.{chain_segments}
use Rattle.rio_recover.specs.Closable.{begins_at}
use Rattle.rio_recover.proofs.Released.{any_without, record_segment}
use Rattle.rio_session.specs.Releases.{AreReleasable}

-- ---- one release

module _ (file : List ℕ) (links : List Link) (place : ℕ) (chain : IsChain links file) (there : list_any (begins_at place) (map segment_of links) ≡ true) (later : 100 < place) (low : file_end (map segment_of links) ≤ end_limit) where
  abbrev segments : List Segment
  segments = map segment_of links

  shape : AreSegments (map segment_of links)
  shape = chain_segments file links chain

  has : HasRecordSegment (map segment_of links) place
  has = record_segment place segments there

  abbrev gaps : List FreeGap
  gaps = given (gap_of place has.1) (gaps_in (map segment_of links))

  freed : (at : ℕ) × (word : ℕ) × IsFreedBy links place at word
  freed = by (gap_over place gaps) refl
    where
      by : (o : Option FreeGap) → gap_over place (given (gap_of place has.1) (gaps_in (map segment_of links))) ≡ o → (at : ℕ) × (word : ℕ) × IsFreedBy links place at word
      by None e = absurd (over_some links segments place gaps refl shape has refl e)
      by (Some gap) e =
          let out : Outcome place links segments gaps gap = outcome links segments place gaps gap refl shape has later low refl (sym e) in
          ⊎_elim (λ before. (gap.place, 2 ^ 32 - gap.length, (out.stays before).2)) (λ at. (gap.place, 0, (out.lowered at).2)) (cases_lt (gap_end gap) (file_end segments))

  -- the record's word says that it is free
  pub released_file : (image : List ℕ) × IsChain (without_record place links) image
  released_file =
      let image = patched file freed.0 (big_bytes 4 freed.1) in
      (image, (freed_chain links place freed.0 freed.1 freed.2 shape.apart file chain image (patched_put file freed.0 (big_bytes 4 freed.1))).0)

  left : IsLeftWithout place has.1 (map segment_of links) (without_segment place (map segment_of links))
  left = subst (λ (ss : List Segment). IsLeftWithout place has.1 ss (without_segment place ss)) (sym has.3) (left_by_releases has.0 has.2 place has.1 (subst AreSegments has.3 shape) later)

  pub lower : file_end (map segment_of (without_record place links)) ≤ file_end (map segment_of links)
  lower = omega (arith, left.end, ap file_end (keeps_segments links place))

-- ---- several

-- other records begin where they did
still_there : (p : ℕ) (segments : List Segment) (places : List ℕ) → list_any (λ q. q == p) places ≡ false → list_all (λ q. list_any (begins_at q) segments) places ≡ true
    → list_all (λ q. list_any (begins_at q) (without_segment p segments)) places ≡ true
still_there p segments [] apart there = refl
still_there p segments (q ∷ places) apart there =
    let parts = or_parts (q == p) (list_any (λ r. r == p) places) apart in
    let begins = and_parts (list_any (begins_at q) segments) (list_all (λ r. list_any (begins_at r) segments) places) there in
    let other : (p == q) ≡ false = ne_eqb p q (λ same. let f : (q == p) ≡ true = eq-eqb q p (sym same) in let g = parts.0 in cc) in
    and_from (list_any (begins_at q) (without_segment p segments)) (list_all (λ r. list_any (begins_at r) (without_segment p segments)) places)
    (any_without q p other segments ∙ begins.0) (still_there p segments places parts.1 begins.1)

pub all_passed : (places : List ℕ) (file : List ℕ) (links : List Link) → IsChain links file → AreReleasable (map segment_of links) places → file_end (map segment_of links) ≤ end_limit → (k : ℕ) → k ≤ length places
    → (image : List ℕ) × IsChain (all_changed links (take k (releases places))) image
all_passed [] file links chain are low zero within = (file, chain)
all_passed [] file links chain are low (suc k) within = absurd (omega (arith, within))
all_passed (p ∷ places) file links chain are low zero within = (file, chain)
all_passed (p ∷ places) file links chain are low (suc k) within =
    let segments = map segment_of links in
    let there = and_parts (list_any (begins_at p) segments) (list_all (λ q. list_any (begins_at q) segments) places) are.there in
    let later = and_parts (nat_lt 100 p) (list_all (nat_lt 100) places) are.later in
    let past : 100 < p = ltb-true 100 p later.0 in
    let next = released_file file links p chain there.0 past low in
    let rest : AreReleasable (map segment_of (without_record p links)) places = record {
      there = subst (λ (ss : List Segment). list_all (λ q. list_any (begins_at q) ss) places ≡ true) (sym (keeps_segments links p)) (still_there p segments places are.apart.0 there.1);
      later = later.1;
      apart = are.apart.1;
    } in
    all_passed places next.0 (without_record p links) next.1 rest (omega (arith, low, lower file links p chain there.0 past low)) k (omega (arith, within))

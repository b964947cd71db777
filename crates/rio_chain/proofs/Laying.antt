-- Lengths that are laid one after the other.
use Rattle.std.proofs.Common.{◌≡◌, ℕ, zero, suc, ◌+◌, ◌%◌, ◌<◌, ◌≤◌, List, [], ◌∷◌, length, drop, get_or, Option, Some, None, refl, sym, ap, subst, ◌∙◌, arith}
use Rattle.std.specs.Option.{option_map, unwrap_or}
use Rattle.rio_free.specs.{Gaps.{best_gap, best_place}, declared.gap.Gap.{Gap as FreeGap}}
use Rattle.rio_free.proofs.Best.{best_is_gap}
use Rattle.rio_chain.specs.{declared.segment.Segment.{Segment}, Adjoining.{AreSegments}}
use Rattle.rio_chain.specs.Placing.{FreeSpace, end_after, file_end, gaps_in, laid, laid_at, place_of, space_of, with_segment}
use Rattle.rio_chain.proofs.Placed.{end_segments, end_shape, gap_end_same, gap_shape, gaps_end, gaps_with, split, end_grows as segments_grow}

-- END never falls
laid_grows : (place : Option ℕ) (n : ℕ) (space : FreeSpace) → space.end ≤ (laid_at place n space).end
laid_grows (Some place) n space = omega arith
laid_grows None n space = omega arith

pub end_grows : (lengths : List ℕ) (space : FreeSpace) → space.end ≤ end_after lengths space
end_grows [] space = omega arith
end_grows (n ∷ lengths) space = omega (arith, laid_grows (best_place n space.gaps) n space, end_grows lengths (laid n space))

-- a length that no gap holds and that passes the limit
pub full_here : (k n limit : ℕ) (lengths : List ℕ) (space : FreeSpace) → k < length lengths → n ≡ get_or lengths k 0 → None ≡ best_place n space.gaps → limit < space.end + n → limit < end_after (drop k lengths) space
full_here k n limit [] space lt is none past = absurd (omega (arith, lt))
full_here zero n limit (m ∷ lengths) space lt is none past =
    let grows = end_grows lengths (laid m space) in
    let here : (laid m space).end ≡ space.end + m = ap (λ (o : Option ℕ). (laid_at o m space).end) (ap (λ (k : ℕ). best_place k space.gaps) (sym is) ∙ sym none) in
    omega (arith, grows, here, is, past)
full_here (suc k) n limit (m ∷ lengths) space lt is none past = full_here k n limit lengths space (omega arith) is none past

-- ---- records that are put where they are laid

module _ (segments : List Segment) (n : ℕ) (shape : AreSegments segments) (some : 4 ≤ n) (aligned : n % 4 ≡ 0) where
  abbrev Laid : ℕ → FreeSpace → Type 0
  Laid place space = AreSegments (with_segment place n segments) × (space_of (with_segment place n segments) ≡ space)

  in_gap : (g : FreeGap) → best_gap n (gaps_in segments) ≡ Some g → Laid g.place (laid_at (Some g.place) n (space_of segments))
  in_gap g found =
      let c = split 100 segments g.place n shape.adjacent (best_is_gap n (gaps_in segments) g found) in (
        gap_shape segments g.place n c shape some aligned,
        λ i. record { gaps = gaps_with g.place n segments i; end = gap_end_same segments g.place n c shape some aligned i },
      )

  at_the_end : Laid (file_end segments) (laid_at None n (space_of segments))
  at_the_end =
      let is = end_segments segments (file_end segments) n shape refl in (
        subst AreSegments (sym is) (end_shape segments n shape some aligned),
        λ i. record { gaps = (ap gaps_in is ∙ gaps_end segments (file_end segments) n) i; end = segments_grow segments (file_end segments) n shape refl i },
      )

  pub laid_put : AreSegments (with_segment (place_of segments n) n segments) × (space_of (with_segment (place_of segments n) n segments) ≡ laid n (space_of segments))
  laid_put = by (best_gap n (gaps_in segments)) refl
    where
      by : (r : Option FreeGap) → best_gap n (gaps_in segments) ≡ r → Laid (place_of segments n) (laid n (space_of segments))
      by (Some g) found =
          let at : best_place n (gaps_in segments) ≡ Some g.place = ap (option_map (λ h. h.place)) found in
          subst (λ (o : Option ℕ). Laid (unwrap_or o (file_end segments)) (laid_at o n (space_of segments))) (sym at) (in_gap g found)
      by None found =
          let at : best_place n (gaps_in segments) ≡ None = ap (option_map (λ h. h.place)) found in
          subst (λ (o : Option ℕ). Laid (unwrap_or o (file_end segments)) (laid_at o n (space_of segments))) (sym at) at_the_end

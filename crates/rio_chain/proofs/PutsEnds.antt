-- Where a file ends behind several records: where it would behind one as long as all of them.
use Rattle.std.proofs.Common.{◌≡◌, inl, inr, ℕ, ◌+◌, ◌%◌, ◌<◌, ◌≤◌, List, [], ◌∷◌, length, refl, sym, subst, ◌∙◌, arith}
use Rattle.std.specs.Prelude.{sum}
use Rattle.rio_chain.specs.{Adjoining.{AreSegments}, Batches.{AreLengths}, declared.segment.Segment.{Segment}}
use Rattle.rio_chain.specs.Placing.{HasRest, HasRoomAt, file_end, with_segment, with_segments}
use Rattle.rio_chain.proofs.{Placed.{end_grows}, PutsNoted.{gap_keeps_end, left_rest, noted, sum_more}}

-- behind END
ends_behind : (segments : List Segment) (place : ℕ) (lengths : List ℕ) → AreSegments segments → AreLengths lengths → place ≡ file_end segments
    → file_end (with_segments place lengths segments) ≡ file_end segments + sum lengths
ends_behind segments place [] shape are is = omega arith
ends_behind segments place (n ∷ lengths) shape are is =
    let one = noted segments place n lengths shape are (inl is) in
    let grows = end_grows segments place n shape is in
    let later = ends_behind (with_segment place n segments) (place + n) lengths one.shape are.2 (omega (arith, grows, is)) in
    omega (arith, later, grows, sum_more n lengths)

-- in a gap
ends_within : (segments : List Segment) (place : ℕ) (lengths : List ℕ) (rest : ℕ) → AreSegments segments → AreLengths lengths → HasRest segments place (sum lengths) rest
    → file_end (with_segments place lengths segments) ≡ file_end segments
ends_within segments place [] rest shape are has = refl
ends_within segments place (n ∷ []) rest shape are has = gap_keeps_end segments place n [] shape are rest has
ends_within segments place (n ∷ k ∷ lengths) rest shape are has =
    let one = noted segments place n (k ∷ lengths) shape are (inr (rest, has)) in
    let left = left_rest segments place n (k ∷ lengths) shape are rest has k lengths refl in
    ends_within (with_segment place n segments) (place + n) (k ∷ lengths) rest one.shape are.2 left
    ∙ gap_keeps_end segments place n (k ∷ lengths) shape are rest has

-- all lengths together are one
sum_aligned : (lengths : List ℕ) → AreLengths lengths → sum lengths % 4 ≡ 0
sum_aligned [] are = refl
sum_aligned (n ∷ lengths) are = omega (arith, are.1, sum_aligned lengths are.2, sum_more n lengths)

one_length : (lengths : List ℕ) → AreLengths lengths → 0 < length lengths → AreLengths (sum lengths ∷ [])
one_length [] are some = absurd (omega (arith, some))
one_length (n ∷ lengths) are some = (omega (arith, are.0, sum_more n lengths), sum_aligned (n ∷ lengths) are, tt)

pub ends_alike : (segments : List Segment) (place : ℕ) (lengths : List ℕ) → AreSegments segments → AreLengths lengths → 0 < length lengths → HasRoomAt segments place (sum lengths)
    → file_end (with_segments place lengths segments) ≡ file_end (with_segment place (sum lengths) segments)
ends_alike segments place lengths shape are some (inl is) = ends_behind segments place lengths shape are is ∙ sym (end_grows segments place (sum lengths) shape is)
ends_alike segments place lengths shape are some (inr gap) =
    let alone : sum lengths ≡ sum (sum lengths ∷ []) = omega (arith, sum_more (sum lengths) []) in
    let has = subst (λ (n : ℕ). HasRest segments place n gap.0) alone gap.1 in
    ends_within segments place lengths gap.0 shape are gap.1
    ∙ sym (gap_keeps_end segments place (sum lengths) [] shape (one_length lengths are some) gap.0 has)

-- What is known of gaps in order.
use Rattle.std.proofs.Common.{◌≡◌, inl, inr, ℕ, zero, suc, ◌+◌, ◌^◌, ◌<◌, ◌≤◌, Bool, true, false, List, [], ◌∷◌, length, get_or, ap, arith}
use Rattle.std.proofs.{lemmas.Bool.{cases_lt, Decides.{nat_tests}}, lemmas.List.Sums.{prefix_len-le-length, prefix_len_passes, prefix_len_stops}}
use Rattle.std.specs.List.{prefix_len, Sorted.{IsNonDecreasingBy, IsPartitionPoint}}
use Rattle.rio_free.specs.{Gaps.{gap_of, gap_end, AreGapsFrom, HasGapFor, is_free}, declared.gap.Gap.{Gap}}

abbrev pub start_of : Gap → ℕ
start_of g = g.place

-- a place to begin from may be lower
pub from_lower : (low from : ℕ) (gaps : List Gap) → low ≤ from → AreGapsFrom from gaps → AreGapsFrom low gaps
from_lower low from [] le are = tt
from_lower low from (g ∷ gaps) le are = (record { behind = omega (arith, are.0.behind); some = are.0.some; fits = are.0.fits }, are.1)

-- no gap begins before that place
pub begins_behind : (from : ℕ) (gaps : List Gap) → AreGapsFrom from gaps → (k : ℕ) (d : Gap) → k < length gaps → from ≤ start_of (get_or gaps k d)
begins_behind from [] are k d lt = absurd (omega (arith, lt))
begins_behind from (g ∷ gaps) are zero d lt = are.0.behind
begins_behind from (g ∷ gaps) are (suc k) d lt = omega (arith, begins_behind (gap_end g + 1) gaps are.1 k d (omega arith), are.0.behind)

-- the places rise
pub places_rise : (from : ℕ) (gaps : List Gap) → AreGapsFrom from gaps → IsNonDecreasingBy start_of gaps
places_rise from [] are i j d le lt = absurd (omega (arith, lt))
places_rise from (g ∷ gaps) are zero zero d le lt = omega arith
places_rise from (g ∷ gaps) are zero (suc j) d le lt = omega (arith, begins_behind (gap_end g + 1) gaps are.1 j d (omega arith))
places_rise from (g ∷ gaps) are (suc i) zero d le lt = absurd (omega (arith, le))
places_rise from (g ∷ gaps) are (suc i) (suc j) d le lt = places_rise (gap_end g + 1) gaps are.1 i j d (omega arith) (omega arith)

-- where the gaps that pass a test end
pub point_is : (p : Gap → Bool) (gaps : List Gap) (i : ℕ) → i ≤ length gaps → IsPartitionPoint (λ g. p g ≡ true) (λ g. p g ≡ false) gaps i → i ≡ prefix_len p gaps
point_is p gaps i le point =
    elim (cases_lt i (prefix_len p gaps)) [
      | inl lt ↦ let yes = prefix_len_passes p gaps i (gap_of 0 0) lt in let no = point.1 i (gap_of 0 0) (omega arith) (omega (arith, prefix_len-le-length p gaps)) in absurd cc
      | inr ge ↦ elim (cases_lt (prefix_len p gaps) i) [
        | inl lt ↦ let yes = point.0 (prefix_len p gaps) (gap_of 0 0) (omega arith) lt in let no = prefix_len_stops p gaps (gap_of 0 0) (omega arith) in absurd cc
        | inr same ↦ omega arith
      ]
    ]

-- a free byte isn't before the gaps
pub free_behind : (from : ℕ) (gaps : List Gap) (byte : ℕ) → AreGapsFrom from gaps → is_free gaps byte ≡ true → from ≤ byte
free_behind from [] byte are free = absurd cc
free_behind from (g ∷ gaps) byte are free = grind (arith, nat_tests, are.0.behind, free_behind (gap_end g + 1) gaps byte are.1)

-- nor is a gap that is found among them
pub gap_behind : (from : ℕ) (gaps : List Gap) (place n : ℕ) → AreGapsFrom from gaps → HasGapFor gaps place n → from ≤ place
gap_behind from gaps place n are (k, x, lt, is, fits) = omega (arith, begins_behind from gaps are k x lt, ap start_of is, fits.0)

-- each gap ends within 64 bits
pub ends_fit : (from : ℕ) (gaps : List Gap) → AreGapsFrom from gaps → (k : ℕ) (d : Gap) → k < length gaps → gap_end (get_or gaps k d) < 2 ^ 64
ends_fit from [] are k d lt = absurd (omega (arith, lt))
ends_fit from (g ∷ gaps) are zero d lt = are.0.fits
ends_fit from (g ∷ gaps) are (suc k) d lt = ends_fit (gap_end g + 1) gaps are.1 k d (omega arith)

-- none is empty
pub all_some : (from : ℕ) (gaps : List Gap) → AreGapsFrom from gaps → (k : ℕ) (d : Gap) → k < length gaps → 0 < (get_or gaps k d).length
all_some from [] are k d lt = absurd (omega (arith, lt))
all_some from (g ∷ gaps) are zero d lt = are.0.some
all_some from (g ∷ gaps) are (suc k) d lt = all_some (gap_end g + 1) gaps are.1 k d (omega arith)

-- END rises by no more than the lengths of records that are laid one after the other.
use Rattle.std.proofs.Common.{ℕ, ◌+◌, ◌≤◌, List, [], ◌∷◌, Option, Some, None, arith}
use Rattle.std.proofs.lemmas.List.Sums.{sum_by-cons}
use Rattle.std.specs.List.{sum_by}
use Rattle.rio_free.specs.Gaps.{best_place}
use Rattle.rio_chain.specs.{Placing.{FreeSpace, end_after, file_end, laid, laid_at, space_of}, declared.segment.Segment.{Segment}}

laid_most : (n : ℕ) (space : FreeSpace) → (laid n space).end ≤ space.end + n
laid_most n space = by (best_place n space.gaps)
  where
    by : (found : Option ℕ) → (laid_at found n space).end ≤ space.end + n
    by (Some place) = omega arith
    by None = omega arith

space_most : (lengths : List ℕ) (space : FreeSpace) → end_after lengths space ≤ space.end + sum_by (λ (n : ℕ). n) lengths
space_most [] space = omega arith
space_most (n ∷ lengths) space = omega (arith, laid_most n space, space_most lengths (laid n space), sum_by-cons (λ (k : ℕ). k) n lengths)

pub all_most : (lengths : List ℕ) (segments : List Segment) → end_after lengths (space_of segments) ≤ file_end segments + sum_by (λ (n : ℕ). n) lengths
all_most lengths segments = space_most lengths (space_of segments)

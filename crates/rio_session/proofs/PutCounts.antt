-- How many records there are once open baskets are put.
use Rattle.std.proofs.Common.{◌≡◌, ℕ, ◌+◌, List, [], ◌∷◌, ◌++◌, length, map, Bool, true, false, refl, arith}
use Rattle.std.proofs.lemmas.List.{length-append, Sums.{sum_by-cons}}
use Rattle.rio_chain.specs.{Placing.{place_of, record_count, with_segment}, declared.segment.Segment.{Segment}}
use Rattle.rio_close.proofs.Fitting.{count_with}
use Rattle.rio_tree.specs.declared.basket_at.BasketAt.{BasketAt}
use Rattle.rio_fill.specs.Fill.{BranchFill, branch_added, branch_put, branches_added, count_before}
use Rattle.rio_effect.specs.{TreeChanges.{all_behind}, TreeRecords.{basket_at, length_of_basket}}
use Rattle.rio_session.specs.{Due.{written_count}, Fillings.{put_open, words_of_open}}
use Rattle.rio_session.specs.Fills.{put_baskets}

pub count_put : (datime : ℕ) (tree : List ℕ) (count : ℕ) (segments : List Segment) (bs : List BranchFill) (flags : List Bool)
    → record_count (put_open datime tree count segments bs flags).segments ≡ record_count segments + length (put_open datime tree count segments bs flags).changes
count_put datime tree count segments [] flags = omega arith
count_put datime tree count segments (b ∷ bs) [] = omega arith
count_put datime tree count segments (b ∷ bs) (true ∷ flags) =
    let n = length_of_basket (words_of_open tree datime b) in
    let place = place_of segments n in
    let rest = count_put datime tree count (with_segment place n segments) bs flags in
    omega (arith, rest, count_with place n segments)
count_put datime tree count segments (b ∷ bs) (false ∷ flags) = count_put datime tree count segments bs flags

-- baskets behind none
pub none_before : (saved : ℕ) (bs : List BranchFill) (placed : List (List BasketAt)) → length placed ≡ length bs → map (put_baskets saved) bs ≡ map (λ b. []) bs → all_behind (map (put_baskets saved) bs) placed ≡ placed
none_before saved [] [] long none = refl
none_before saved [] (p ∷ ps) long none = refl
none_before saved (b ∷ bs) [] long none = absurd (omega (arith, long))
none_before saved (b ∷ bs) (p ∷ ps) long none =
    let first : put_baskets saved b ≡ [] = cc in
    let rest : map (put_baskets saved) bs ≡ map (λ b. []) bs = cc in
    let later = none_before saved bs ps (omega (arith, long)) rest in
    λ i. (first i ++ p) ∷ later i

-- and how many baskets were written
pub written_put : (datime : ℕ) (tree : List ℕ) (count : ℕ) (segments : List Segment) (bs : List BranchFill) (flags : List Bool)
    → written_count (put_open datime tree count segments bs flags).branches ≡ written_count bs + length (put_open datime tree count segments bs flags).changes
written_put datime tree count segments [] flags = omega arith
written_put datime tree count segments (b ∷ bs) [] = omega arith
written_put datime tree count segments (b ∷ bs) (true ∷ flags) =
    let words = words_of_open tree datime b in
    let n = length_of_basket words in
    let place = place_of segments n in
    let at = basket_at place (count_before count b) words in
    let rest = put_open datime tree count (with_segment place n segments) bs flags in
    omega (
      arith,
      written_put datime tree count (with_segment place n segments) bs flags,
      sum_by-cons (λ (c : BranchFill). length c.baskets) b bs,
      sum_by-cons (λ (c : BranchFill). length c.baskets) (branch_put at b) rest.branches,
      length-append b.baskets (at ∷ []),
    )
written_put datime tree count segments (b ∷ bs) (false ∷ flags) =
    let rest = put_open datime tree count segments bs flags in
    omega (arith, written_put datime tree count segments bs flags, sum_by-cons (λ (c : BranchFill). length c.baskets) b bs, sum_by-cons (λ (c : BranchFill). length c.baskets) b rest.branches)

pub written_added : (bs : List BranchFill) (row : List (List ℕ)) → written_count (branches_added bs row) ≡ written_count bs
written_added [] row = refl
written_added (b ∷ bs) [] = refl
written_added (b ∷ bs) (e ∷ row) =
    omega (
      arith,
      written_added bs row,
      sum_by-cons (λ (c : BranchFill). length c.baskets) b bs,
      sum_by-cons (λ (c : BranchFill). length c.baskets) (branch_added b e) (branches_added bs row),
    )

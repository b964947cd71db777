-- The open baskets that are put fit the header that names them, and END rises by few bytes.
use Rattle.std.proofs.Common.{◌≡◌, ℕ, ◌+◌, ◌*◌, ◌%◌, ◌<◌, ◌≤◌, ◌^◌, List, [], ◌∷◌, ◌++◌, length, map, Bool, true, false, refl, ap, arith}
use Rattle.std.proofs.lemmas.{Bool.{and_from, and_parts, lt-ltb}, List.{length-append, Sums.{sum_by-cons}}}
use Rattle.std.specs.List.{AllByRecursion, list_all}
use Rattle.rio_chain.specs.{Adjoining.{AreSegments}, Placing.{FreeSpace, end_after, file_end, place_of, space_of, with_segment}, declared.segment.Segment.{Segment}}
use Rattle.rio_chain.proofs.Laying.{laid_put}
use Rattle.rio_close.proofs.Fitting.{place_low}
use Rattle.rio_tree.specs.{WrittenLaws.{basket_fits_header}, declared.basket_at.BasketAt.{BasketAt}}
use Rattle.rio_fill.specs.Fill.{BranchFill, branch_put, count_before, defs_of}
use Rattle.rio_effect.specs.TreeRecords.{basket_at, length_of_basket}
use Rattle.rio_effect.proofs.CutWeights.{AreShort}
use Rattle.rio_session.specs.{Due.{written_count}, Fillings.{BasketsPut, put_open, words_of_open}}
use Rattle.rio_session.proofs.{BasketsFit.{basket_aligned, basket_least, basket_low}, Places.{end_most}, SizedRows.{AreFitOpens}}

-- the numbers of each basket fit the header
abbrev pub HaveFitBaskets : List BranchFill → Type 0
HaveFitBaskets bs = AllByRecursion (λ (b : BranchFill). list_all basket_fits_header b.baskets ≡ true) bs

pub all_more : (ats : List BasketAt) (at : BasketAt) → list_all basket_fits_header ats ≡ true → basket_fits_header at ≡ true → list_all basket_fits_header (ats ++ at ∷ []) ≡ true
all_more [] at all one = and_from (basket_fits_header at) true one refl
all_more (a ∷ ats) at all one =
    let parts = and_parts (basket_fits_header a) (list_all basket_fits_header ats) all in
    and_from (basket_fits_header a) (list_all basket_fits_header (ats ++ at ∷ [])) parts.0 (all_more ats at parts.1 one)

pub end_with : (segments : List Segment) (n : ℕ) → AreSegments segments → 4 ≤ n → n % 4 ≡ 0 → file_end (with_segment (place_of segments n) n segments) ≤ file_end segments + n
end_with segments n shape some aligned =
    let put = ap (λ (s : FreeSpace). s.end) (laid_put segments n shape some aligned).1 in
    let end : file_end (with_segment (place_of segments n) n segments) ≡ end_after (n ∷ []) (space_of segments) = put in
    omega (arith, end, end_most n segments)

pub record IsPutFit (segments : List Segment) (bs : List BranchFill) (p : BasketsPut) : Type 0 where
  pub shape : AreSegments p.segments
  pub end : file_end p.segments ≤ file_end segments + 16820000 * length bs
  pub fits : HaveFitBaskets p.branches
  pub many : written_count p.branches ≤ written_count bs + length bs

module _ (datime : ℕ) (tree : List ℕ) (count : ℕ) (named : length tree ≤ 100) (low : count < 2 ^ 63) where
  none_fit : (segments : List Segment) (bs : List BranchFill) → AreSegments segments → HaveFitBaskets bs → IsPutFit segments bs (record { lengths = []; changes = []; segments = segments; branches = bs })
  none_fit segments bs shape fits = record { shape = shape; end = omega arith; fits = fits; many = omega arith }

  pub puts_fit : (segments : List Segment) (bs : List BranchFill) (flags : List Bool) → AreShort (defs_of bs) → AreFitOpens (defs_of bs) (map (λ b. b.entries) bs) → AreSegments segments → HaveFitBaskets bs
      → file_end segments + 16820000 * length bs < 4294967296 → IsPutFit segments bs (put_open datime tree count segments bs flags)
  puts_fit segments [] flags short opens shape fits room = none_fit segments [] shape fits
  puts_fit segments (b ∷ bs) [] short opens shape fits room = none_fit segments (b ∷ bs) shape fits
  puts_fit segments (b ∷ bs) (true ∷ flags) short opens shape fits room =
      let words = words_of_open tree datime b in
      let n = length_of_basket words in
      let place = place_of segments n in
      let some = basket_least tree b.def datime b.entries named short.0 opens.0 in
      let aligned = basket_aligned tree b.def datime b.entries named short.0 opens.0 in
      let long = basket_low tree b.def datime b.entries named short.0 opens.0 in
      let then = (laid_put segments n shape some aligned).0 in
      let end = end_with segments n shape some aligned in
      let at = basket_at place (count_before count b) words in
      let here = place_low segments place n shape refl in
      let own : basket_fits_header at ≡ true =
      and_from _ _ (and_from _ _ (lt-ltb n (2 ^ 31) (omega (arith, long))) (lt-ltb (count_before count b) (2 ^ 63) (omega (arith, low)))) (lt-ltb place (2 ^ 63) (omega (arith, here, room))) in
      let rest = puts_fit (with_segment place n segments) bs flags short.1 opens.1 then fits.1 (omega (arith, end, long, room)) in
      let all = all_more b.baskets at fits.0 own in
      let cs = (put_open datime tree count (with_segment place n segments) bs flags).branches in
      let one = length-append b.baskets (at ∷ []) in
      record {
        shape = rest.shape;
        end = omega (arith, rest.end, end, long);
        fits = (all, rest.fits);
        many = omega (arith, rest.many, one, sum_by-cons (λ (c : BranchFill). length c.baskets) (branch_put at b) cs, sum_by-cons (λ (c : BranchFill). length c.baskets) b bs);
      }
  puts_fit segments (b ∷ bs) (false ∷ flags) short opens shape fits room =
      let rest = puts_fit segments bs flags short.1 opens.1 shape fits.1 (omega (arith, room)) in
      let cs = (put_open datime tree count segments bs flags).branches in
      record {
        shape = rest.shape;
        end = omega (arith, rest.end);
        fits = (fits.0, rest.fits);
        many = omega (arith, rest.many, sum_by-cons (λ (c : BranchFill). length c.baskets) b cs, sum_by-cons (λ (c : BranchFill). length c.baskets) b bs);
      }

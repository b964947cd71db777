-- What the open baskets that are put make of the segments: their form stays, each is one record more, and records that were there stay.
use Rattle.std.proofs.Common.{◌≡◌, ◌∙◌, ℕ, ◌+◌, ◌%◌, ◌≤◌, List, [], ◌∷◌, ◌++◌, length, Bool, true, false, refl, ap, arith}
use Rattle.std.specs.List.{list_any}
use Rattle.rio_chain.specs.{Adjoining.{AreSegments}, Placing.{end_after, place_of, record_count, space_of, with_segment}, declared.segment.Segment.{Segment}}
use Rattle.rio_chain.proofs.Laying.{laid_put}
use Rattle.rio_close.proofs.Fitting.{count_with}
use Rattle.rio_fill.specs.Fill.{BranchFill}
use Rattle.rio_recover.specs.Closable.{begins_at}
use Rattle.rio_effect.specs.TreeRecords.{BasketWords, length_of_basket}
use Rattle.rio_session.specs.Fillings.{BasketsPut, put_open, words_of_open}
use Rattle.rio_session.proofs.Keeps.{begins_still}

-- a basket's record has some bytes, in words of four
pub basket_some : (words : BasketWords) → 4 ≤ length_of_basket words
basket_some words = omega arith

pub basket_aligned : (words : BasketWords) → length_of_basket words % 4 ≡ 0
basket_aligned words = omega arith

pub record ArePutsKept (segments : List Segment) (p : BasketsPut) : Type 0 where
  pub shape : AreSegments p.segments
  -- END is where the records end that are laid one after the other
  pub end : (more : List ℕ) → end_after more (space_of p.segments) ≡ end_after (p.lengths ++ more) (space_of segments)
  pub count : record_count p.segments ≡ record_count segments + length p.lengths
  pub begins : (q : ℕ) → list_any (begins_at q) segments ≡ true → list_any (begins_at q) p.segments ≡ true

none_put : (segments : List Segment) (branches : List BranchFill) → AreSegments segments → ArePutsKept segments (record { lengths = []; changes = []; segments = segments; branches = branches })
none_put segments branches shape = record { shape = shape; end = λ more. refl; count = omega arith; begins = λ q e. e }

pub puts_kept : (datime : ℕ) (tree : List ℕ) (count : ℕ) (segments : List Segment) (bs : List BranchFill) (flags : List Bool) → AreSegments segments → ArePutsKept segments (put_open datime tree count segments bs flags)
puts_kept datime tree count segments [] flags shape = none_put segments [] shape
puts_kept datime tree count segments (b ∷ bs) [] shape = none_put segments (b ∷ bs) shape
puts_kept datime tree count segments (b ∷ bs) (true ∷ flags) shape =
    let words = words_of_open tree datime b in
    let n = length_of_basket words in
    let place = place_of segments n in
    let put = laid_put segments n shape (basket_some words) (basket_aligned words) in
    let rest = puts_kept datime tree count (with_segment place n segments) bs flags put.0 in
    let more = rest.count in
    let one = count_with place n segments in
    record {
      shape = rest.shape;
      end = λ further. rest.end further ∙ ap (end_after ((put_open datime tree count (with_segment place n segments) bs flags).lengths ++ further)) put.1;
      count = omega (arith, more, one);
      begins = λ q e. rest.begins q (begins_still q place n segments e);
    }
puts_kept datime tree count segments (b ∷ bs) (false ∷ flags) shape =
    let rest = puts_kept datime tree count segments bs flags shape in
    record { shape = rest.shape; end = rest.end; count = rest.count; begins = rest.begins }

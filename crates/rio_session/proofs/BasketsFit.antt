-- The open baskets of a tree can be put: the numbers of their records fit their fields.
use Rattle.std.proofs.Common.{◌≡◌, ◌||◌, ℕ, ◌+◌, ◌-◌, ◌*◌, ◌%◌, ◌<◌, ◌≤◌, ◌^◌, codes, List, [], ◌∷◌, length, map, Bool, true, false, refl, sym, ap, subst, ◌∙◌, arith}
use Rattle.rio_num.specs.Text.{text_bytes}
use Rattle.rio_num.proofs.TextLengths.{short_text_bytes}
use Rattle.rio_leaf.specs.declared.branch.BranchDef.{BranchDef}
use Rattle.rio_chain.specs.{Adjoining.{AreSegments}, Placing.{FreeSpace, end_after, file_end, place_of, space_of, with_segment}, Segments.{Link, segment_of}, declared.segment.Segment.{Segment}}
use Rattle.rio_chain.proofs.Laying.{laid_put}
use Rattle.rio_key.specs.{OpenBasket.{OpenBasket, entries_length}, BasketRecord.{FitsBasketRecord, basket_data, basket_key_length}}
use Rattle.rio_key.proofs.HeldLaws.{data_with_offsets, data_without_offsets}
use Rattle.rio_tree.specs.Header.{has_offsets}
use Rattle.rio_close.proofs.Fitting.{place_low}
use Rattle.rio_effect.specs.{BasketRuns.{CanAllBePut}, Changes.{basket_added, basket_place, changed}, PutBaskets.{CanBePut}, TreeRecords.{BasketWords, basket_with_words, length_of_basket, words_of_basket}}
use Rattle.rio_effect.proofs.{CutWeights.{AreShort}, FileChanges.{segments_follow}}
use Rattle.rio_session.proofs.{Places.{end_most}, SizedRows.{AreFitOpens, IsFitOpen}}

-- ---- one basket

module _ (tree : List ℕ) (b : BranchDef) (datime : ℕ) (es : List (List ℕ)) (tree_short : length tree ≤ 100) (branch_short : length b.name ≤ 100) (fit : IsFitOpen b es) where
  abbrev words : BasketWords
  words = words_of_basket tree b datime es

  abbrev keylen : ℕ
  keylen = basket_key_length tree b.name

  abbrev held : OpenBasket
  held = record { offsets = has_offsets b.shape; entries = es; rooms = 0; spare = 0 }

  key_low : keylen ≤ 255
  key_low =
      let one = short_text_bytes tree tree_short in
      let two = short_text_bytes b.name branch_short in
      let class : length (text_bytes (codes "TBasket")) ≡ 8 = refl in
      omega (arith, one, two, class)

  data_low : length (basket_data keylen held) ≤ 16810000
  data_low = by (has_offsets b.shape) refl
    where
      by : (t : Bool) → has_offsets b.shape ≡ t → length (basket_data keylen held) ≤ 16810000
      by true is = omega (arith, data_with_offsets keylen held is, fit.small.count, fit.small.bytes)
      by false is = omega (arith, data_without_offsets keylen held is, fit.small.bytes)

  pub basket_low : length_of_basket (words_of_basket tree b datime es) ≤ 16820000
  basket_low = omega (arith, key_low, data_low)

  pub basket_least : 4 ≤ length_of_basket (words_of_basket tree b datime es)
  basket_least = omega arith

  pub basket_aligned : length_of_basket (words_of_basket tree b datime es) % 4 ≡ 0
  basket_aligned = omega arith

  pub one_fits : (place : ℕ) → place < 2 ^ 32 → datime < 2 ^ 32 → 0 < length es → CanBePut place (words_of_basket tree b datime es)
  one_fits place low soon some = record {
    fits = record {
      place_fits = low;
      datime_fits = soon;
      key_fits = omega (arith, key_low);
      count_fits = omega (arith, fit.small.count);
      record_fits = omega (arith, basket_low);
    };
    even = fit.even;
    some = some;
  }

-- ---- those of a tree

end_then : (segments : List Segment) (n : ℕ) → AreSegments segments → 4 ≤ n → n % 4 ≡ 0 → file_end (with_segment (place_of segments n) n segments) ≤ file_end segments + n
end_then segments n shape some aligned =
    let put = ap (λ (s : FreeSpace). s.end) (laid_put segments n shape some aligned).1 in
    let end : file_end (with_segment (place_of segments n) n segments) ≡ end_after (n ∷ []) (space_of segments) = put in
    omega (arith, end, end_most n segments)

-- Where END leaves room for all of them below 2^32.
pub baskets_fit : (datime : ℕ) (tree : List ℕ) (links : List Link) (bs : List BranchDef) (entries : List (List (List ℕ))) → datime < 2 ^ 32 → length tree ≤ 100 → AreShort bs → AreFitOpens bs entries
    → AreSegments (map segment_of links) → file_end (map segment_of links) + 16820000 * length bs < 4294967296 → CanAllBePut datime tree links bs entries
baskets_fit datime tree links [] entries soon named short fit shape room = tt
baskets_fit datime tree links (b ∷ bs) [] soon named short fit shape room = tt
baskets_fit datime tree links (b ∷ bs) ([] ∷ entries) soon named short fit shape room =
    baskets_fit datime tree links bs entries soon named short.1 fit.1 shape (omega (arith, room))
baskets_fit datime tree links (b ∷ bs) ((e ∷ es) ∷ entries) soon named short fit shape room =
    let words = words_of_basket tree b datime (e ∷ es) in
    let n = length_of_basket words in
    let segments = map segment_of links in
    let then = changed links (basket_added words) in
    let some = basket_least tree b datime (e ∷ es) named short.0 fit.0 in
    let aligned = basket_aligned tree b datime (e ∷ es) named short.0 fit.0 in
    let low = basket_low tree b datime (e ∷ es) named short.0 fit.0 in
    let follow = sym (segments_follow links (basket_added words)) in
    let next : AreSegments (map segment_of then) = subst AreSegments follow (laid_put segments n shape some aligned).0 in
    let end : file_end (map segment_of then) ≤ file_end segments + n = subst (λ (x : List Segment). file_end x ≤ file_end segments + n) follow (end_then segments n shape some aligned) in
    let place = place_low segments (basket_place links words) n shape refl in (
      one_fits tree b datime (e ∷ es) named short.0 fit.0 (basket_place links words) (omega (arith, place, room)) soon (omega arith),
      baskets_fit datime tree then bs entries soon named short.1 fit.1 next (omega (arith, end, low, room)),
    )

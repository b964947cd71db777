-- Whether there is room behind what was walked.
use Rattle.std.proofs.Common.{◌≡◌, ◌∙◌, ℕ, ◌+◌, List, ◌++◌, map, length, ltb, Option, Some, None, refl, sym, ap, arith}
use Rattle.std.proofs.lemmas.List.{length-append, length-map, Concat.{length-flat_map}, Sorted.{length_permutation, sum_by-IsPermutation}}
use Rattle.std.specs.{List.{sum_by, Sorted.{IsPermutation}}, Option.{option_map_or}}
use Rattle.rio_format.specs.declared.class.ClassDef.{ClassDef}
use Rattle.rio_key.specs.{Written.{written_key}, declared.head.KeyHead.{KeyHead}}
use Rattle.rio_head.specs.declared.reason.Reason.TheVariants.{NoRoom, TooMany}
use Rattle.rio_chain.specs.{Adjoining.{segments_end}, Placing.{file_end}, Segments.{Link, chain_end, segment_of}}
use Rattle.rio_chain.specs.declared.segment.Segment.{Segment}
use Rattle.rio_chain.proofs.PutChain.{map_end}
use Rattle.rio_dir.specs.Table.{heads_size}
use Rattle.rio_machine.specs.Limits.{item_limit}
use Rattle.rio_state.specs.Closing.{KeptRecords, close_need, end_limit, item_heads, kept_in, kept_with, name_in, open_count, padded_length, saved_lengths}
use Rattle.rio_state.specs.{Contents.{FileClasses, file_classes}, KeyedRecords.{KeyedRecord, info_key, keyed_records, object_records, top_keys, tree_records}, Left.{info_head}, Reasons.{items_among, reason_if, room_reasons}}
use Rattle.rio_state.specs.{Sizes.{close_size}, Trees.{all_places_named, basket_places}}
use Rattle.rio_state.proofs.{CloseSizes.{close_size_is_need}, NonePending.{all_idle}}
use Rattle.rio_recover.specs.{Recovered.{AreItemsOf, other_count}, Trees.{places_of, trees_at}, declared.trees.TreeAt.{TreeAt}}
use Rattle.rio_recover.proofs.{Garbage.{places_are}, RoomReasons.{kept_for, room_of}}

-- ---- lengths

-- what a close writes depends on the heads by their number and their length alone, and on the saves that are due
pub need_same : (a b : KeptRecords) → a.name ≡ b.name → heads_size a.heads ≡ heads_size b.heads → a.count ≡ b.count → saved_lengths a ≡ saved_lengths b → open_count a ≡ open_count b
    → close_need a ≡ close_need b
need_same a b name size count saves opened =
    close_size_is_need a ∙ (λ i. sum_by padded_length (saves i) + close_size (name i) (size i) (count i + opened i)) ∙ sym (close_size_is_need b)

-- ---- how many

-- how many items there are
items_count : (tops : List KeyedRecord) → length (item_heads tops) ≡ items_among tops
items_count tops = length-map (object_records tops ++ tree_records tops) (λ r. r.head) ∙ length-append (object_records tops) (tree_records tops)

-- and class lists
pub count_in : (o : Option KeyedRecord) → ◌≡◌ {A = ℕ} (option_map_or (λ h. 1) (info_head o) 0) (option_map_or (λ r. 1) o 0)
count_in None = refl
count_in (Some r) = refl

-- and baskets
pub places_count : (classes : FileClasses) (headers : List KeyedRecord) (trees : List TreeAt) → IsPermutation (trees_at classes headers) trees → length (places_of trees) ≡ length (all_places_named classes headers)
places_count classes headers trees moved =
    length-flat_map (λ (t : TreeAt). basket_places t.head) trees
    ∙ sum_by-IsPermutation (λ (t : TreeAt). length (basket_places t.head)) (trees_at classes headers) trees moved
    ∙ sym (length-flat_map (λ (t : TreeAt). basket_places t.head) (trees_at classes headers))
    ∙ sym (ap length (places_are classes headers))

-- ---- reasons

pub room_same : (links : List Link) (segments : List Segment) (classes : List ClassDef) (heads : List KeyHead) (trees : List TreeAt) (name : List ℕ) (info : Option KeyHead) → segments ≡ map segment_of links
    → AreItemsOf (keyed_records links) classes heads trees → name ≡ name_in (keyed_records links) → info ≡ info_head (info_key (keyed_records links))
    → room_of (length heads) (file_end segments) (kept_for name heads (other_count info trees)) ≡ room_reasons links
unfolding room_reasons kept_with
room_same links segments classes heads trees name info same items named kept =
    let records = keyed_records links in
    let tops = top_keys records in
    let headers = tree_records tops in
    let listed = file_classes (info_key records) in
    let idle = all_idle listed headers in
    let long : length heads ≡ length (item_heads tops) = length_permutation (item_heads tops) heads items.heads_are in
    let few : length heads ≡ items_among tops = long ∙ items_count tops in
    let end : file_end segments ≡ chain_end links = ap (segments_end 100) same ∙ map_end 100 links in
    let size : heads_size heads ≡ heads_size (item_heads tops) = sum_by-IsPermutation (λ h. length (written_key h)) (item_heads tops) heads items.heads_are in
    let list : ◌≡◌ {A = ℕ} (option_map_or (λ h. 1) info 0) (option_map_or (λ r. 1) (info_key records) 0) = ap (λ (o : Option KeyHead). option_map_or (λ h. 1) o 0) kept ∙ count_in (info_key records) in
    let baskets = places_count listed headers trees items.trees_are in
    let mine = kept_for name heads (other_count info trees) in
    let count : mine.count ≡ (kept_in links).count = omega (arith, long, list, baskets, idle.put) in
    let need = need_same mine (kept_in links) named size count (sym idle.saves) (sym idle.opened) in
    λ i. reason_if (ltb item_limit (few i)) 0 TooMany ++ reason_if (ltb end_limit (end i + need i)) 0 NoRoom

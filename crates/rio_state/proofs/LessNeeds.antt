-- What a close needs, and what a file holds, without a record.
use Rattle.std.proofs.Common.{◌≡◌, ℕ, ◌+◌, ◌≤◌, ◌∙◌, codes, List, [], ◌∷◌, length, Bool, true, false, not, ◌&&◌, ◌==◌, Option, refl, sym, ap, arith}
use Rattle.std.proofs.{lemmas.Bool.{ne_eqb, not-false}, lemmas.List.{length-append, Sums.{sum_by-append, sum_by-cons}}}
use Rattle.std.specs.{Prelude.{if◌then◌else◌}, List.{flat_map, sum_by}, Option.{option_map_or}}
use Rattle.rio_key.specs.{Written.{written_key}, declared.head.KeyHead.{KeyHead}}
use Rattle.rio_chain.specs.{Changes.{with_gap, without_record}, Segments.{GapAt, Link, RecordAt, end_from}}
use Rattle.rio_machine.specs.Limits.{head_length}
use Rattle.rio_state.specs.{Contents.{file_classes}, Closing.{KeptRecords, close_need, closing_lengths, free_length, held_beside, held_with, item_heads, kept_with, list_length, open_count, padded_length, saved_lengths}}
use Rattle.rio_state.specs.KeyedRecords.{KeyedRecord, info_key, is_outdated, is_top_key, is_tree_key, is_tree_record, keyed_records, top_keys, tree_records}
use Rattle.rio_state.specs.{TreeLengths.{PendingRows, TreeLengths, idle_length, put_among, save_lengths, small_fillings, trees_among}, Trees.{all_places_named}}
use Rattle.rio_state.specs.{OneLess.{NeedFalls, NeedsNoMore, links_without}, OneMore.{HasOneMoreIn}, Referred.{is_tree_item}}
use Rattle.rio_state.proofs.{Insertion.{filter_more, filter_same}, KeysFollow.{items_more}, LessRecords.{first_is_kept, record_less}}
use Rattle.rio_state.proofs.{CloseSizes.{closing_sum}, ObjectStands.{trees_same}, Unreferred.{info_kept, items_same, part_outdated}}

-- ---- heads

abbrev heads_length : List KeyHead → ℕ
heads_length heads = sum_by (λ h. length (written_key h)) heads

-- some heads are written in no more bytes, and aren't more
pub record AreNoMore (old new : List KeyHead) : Type 0 where
  pub bytes : heads_length new ≤ heads_length old
  pub count : length new ≤ length old

same_heads : (old new : List KeyHead) → new ≡ old → AreNoMore old new
same_heads old new same = record { bytes = omega (arith, ap heads_length same); count = omega (arith, ap length same) }

one_head_less : (old new : List KeyHead) (head : KeyHead) → HasOneMoreIn new old head → AreNoMore old new
one_head_less old new head h =
    let long = λ (k : KeyHead). length (written_key k) in
    let one = ap heads_length h.after ∙ sum_by-append long h.front (head ∷ h.back) in
    let two = sum_by-cons long head h.back in
    let three = ap heads_length h.before ∙ sum_by-append long h.front h.back in
    let four = ap length h.after ∙ length-append h.front (head ∷ h.back) in
    let five = ap length h.before ∙ length-append h.front h.back in
    record { bytes = omega (arith, one, two, three); count = omega (arith, four, five) }

module _ (old new : List KeyedRecord) (r : KeyedRecord) (h : HasOneMoreIn new old r) where
  abbrev tops : List KeyedRecord
  tops = top_keys old

  abbrev left : List KeyedRecord
  left = top_keys new

  tops_less : HasOneMoreIn left tops r → (b : Bool) → is_tree_key r.head ≡ b → (b && not (is_outdated tops r)) ≡ false → AreNoMore (item_heads tops) (item_heads left)
  tops_less less true tree none = same_heads (item_heads tops) (item_heads left) (items_same tops left (part_outdated tops left r less tree (not-false _ none)))
  tops_less less false object none = one_head_less (item_heads tops) (item_heads left) r.head (items_more left tops r less object)

  heads_less : is_tree_item tops r ≡ false → AreNoMore (item_heads tops) (item_heads left)
  heads_less none = by (is_top_key r.head) refl none
    where
      by : (b : Bool) → is_top_key r.head ≡ b → (b && is_tree_record tops r) ≡ false → AreNoMore (item_heads tops) (item_heads left)
      by false e none = same_heads (item_heads tops) (item_heads left) (ap item_heads (sym (filter_same (λ s. is_top_key s.head) r new old h e)))
      by true e none = tops_less (filter_more (λ s. is_top_key s.head) r new old h e) (is_tree_key r.head) refl none

  -- and the headers that count stay
  trees_left : is_tree_item tops r ≡ false → tree_records left ≡ tree_records tops
  trees_left none = by (is_top_key r.head) refl none
    where
      of_top : HasOneMoreIn left tops r → (b : Bool) → is_tree_key r.head ≡ b → (b && not (is_outdated tops r)) ≡ false → tree_records left ≡ tree_records tops
      of_top less true tree none = (part_outdated tops left r less tree (not-false _ none)).trees
      of_top less false object none = sym (trees_same left tops r less object)

      by : (b : Bool) → is_top_key r.head ≡ b → (b && is_tree_record tops r) ≡ false → tree_records left ≡ tree_records tops
      by false e none = ap tree_records (sym (filter_same (λ s. is_top_key s.head) r new old h e))
      by true e none = of_top (filter_more (λ s. is_top_key s.head) r new old h e) (is_tree_key r.head) refl none

-- how many records the class list that counts is
abbrev list_count : Option KeyedRecord → ℕ
list_count info = option_map_or (λ r. 1) info 0

-- ---- what is kept

-- a file keeps no more, under the same name and with the same trees
pub record KeepsNoMore (old new : KeptRecords) : Type 0 where
  pub name : new.name ≡ old.name
  pub heads : heads_length new.heads ≤ heads_length old.heads
  pub count : new.count ≤ old.count
  pub trees : new.trees ≡ old.trees

module _ (old new : KeptRecords) (k : KeepsNoMore old new) where
  list_less : list_length new ≤ list_length old
  list_less = omega (arith, k.heads, ap (head_length (codes "TFile")) k.name)

  free_less : free_length new ≤ free_length old
  free_less = let opened : open_count new ≡ open_count old = ap (λ (ts : List TreeLengths). sum_by (λ t. length t.baskets) ts) k.trees in omega (arith, k.count, opened, ap (head_length (codes "TFile")) k.name)

  -- the sum of all closing lengths, each made longer in a way that keeps their order
  sum_less : (f : ℕ → ℕ) → ((a b : ℕ) → a ≤ b → f a ≤ f b) → sum_by f (closing_lengths new) ≤ sum_by f (closing_lengths old)
  sum_less f rises =
      let saved : sum_by f (saved_lengths new) ≡ sum_by f (saved_lengths old) = ap (λ (ts : List TreeLengths). sum_by f (flat_map save_lengths ts)) k.trees in
      let list = rises (list_length new) (list_length old) list_less in
      let free = rises (free_length new) (free_length old) free_less in
      omega (arith, closing_sum f new, closing_sum f old, saved, list, free)

  padded_less : (a b : ℕ) → a ≤ b → padded_length a ≤ padded_length b
  padded_less a b le = omega (arith, le)

  need_less : close_need new ≤ close_need old
  unfolding close_need
  need_less = sum_less padded_length padded_less

  longer_less : (a b : ℕ) → a ≤ b → a + 3 ≤ b + 3
  longer_less a b le = omega (arith, le)

  beside_same : held_beside new ≡ held_beside old
  beside_same = ap (λ (ts : List TreeLengths). sum_by idle_length ts + sum_by small_fillings ts) k.trees

-- ---- END

end_gap : (p q n : ℕ) (links : List Link) → end_from p (with_gap q n links) ≤ end_from (p + n) links
end_gap p q n [] = omega arith
end_gap p q n (RecordAt r bytes ∷ links) = omega arith
end_gap p q n (GapAt r m ∷ links) = let same : end_from (p + (n + m)) links ≡ end_from (p + n + m) links = ap (λ (k : ℕ). end_from k links) (omega arith) in omega (arith, same)

pub end_less : (place p : ℕ) (links : List Link) → end_from p (without_record place links) ≤ end_from p links
end_less place p [] = omega arith
end_less place p (RecordAt q bytes ∷ links) = by (q == place) (end_less place (p + length bytes) links)
  where
    by : (b : Bool) → end_from (p + length bytes) (without_record place links) ≤ end_from (p + length bytes) links
        → end_from p (if b then with_gap q (length bytes) links else RecordAt q bytes ∷ without_record place links) ≤ end_from (p + length bytes) links
    by true rest = end_gap p q (length bytes) links
    by false rest = rest
end_less place p (GapAt q n ∷ links) =
    let gap = end_gap p q n (without_record place links) in
    let rest = end_less place (p + n) links in
    omega (arith, gap, rest)

-- ---- without a record

pub needs_no_more : (pending : PendingRows) (place : ℕ) (links : List Link) → KeepsNoMore (kept_with pending links) (kept_with pending (without_record place links))
    → NeedsNoMore pending links (without_record place links)
unfolding held_with
needs_no_more pending place links k =
    let old = kept_with pending links in
    let new = kept_with pending (without_record place links) in
    let need = need_less old new k in
    let end = end_less place 100 links in
    record {
      need = need;
      end = omega (arith, need, end);
      held = omega (arith, end, sum_less old new k (λ n. n + 3) (longer_less old new k), beside_same old new k);
    }

pub need_falls : NeedFalls
unfolding kept_with
need_falls pending file links r has first list none =
    let old = keyed_records links in
    let new = keyed_records (links_without links r) in
    let less = record_less file links r has in
    let info = info_kept old new r less (ne_eqb _ _ list) in
    let heads = heads_less old new r less none in
    let trees = trees_left old new r less none in
    let classes = ap file_classes info in
    let put : put_among (file_classes (info_key new)) pending (tree_records (top_keys new)) ≡ put_among (file_classes (info_key old)) pending (tree_records (top_keys old)) = λ i. put_among (classes i) pending (trees i) in
    let named : length (all_places_named (file_classes (info_key new)) (tree_records (top_keys new))) ≡ length (all_places_named (file_classes (info_key old)) (tree_records (top_keys old))) = λ i. length (all_places_named (classes i) (trees i)) in
    let lists : list_count (info_key new) ≡ list_count (info_key old) = ap list_count info in
    needs_no_more pending r.head.seek links (record {
      name = first_is_kept file links r has first;
      heads = heads.bytes;
      count = omega (arith, heads.count, put, named, lists);
      trees = λ i. trees_among (classes i) pending (trees i);
    })

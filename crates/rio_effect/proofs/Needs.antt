-- What a close needs with one more record in the file, and by the keys that are kept beside it.
use Rattle.std.proofs.Common.{◌≡◌, ℕ, ◌+◌, ◌≤◌, ◌∙◌, codes, List, ◌∷◌, length, Bool, true, false, not, ◌&&◌, Option, Some, None, sym, ap, subst, arith}
use Rattle.std.proofs.{lemmas.Bool.{and_parts}, lemmas.List.{length-append, Sums.{sum_by-append, sum_by-cons}}}
use Rattle.std.specs.List.{flat_map, sum_by}
use Rattle.rio_key.specs.{Written.{written_key}, declared.head.KeyHead.{KeyHead}}
use Rattle.rio_chain.specs.{Changes.{with_record}, Segments.{Link}}
use Rattle.rio_machine.specs.Limits.{head_length}
use Rattle.rio_state.specs.{Closing.{KeptRecords, close_need, free_length, item_heads, kept_count, kept_with, list_length, name_in, open_count, padded_length, saved_lengths}, Contents.{file_classes}, TreeLengths.{PendingRows, put_among, save_lengths, trees_among}, Trees.{all_places_named}}
use Rattle.rio_state.specs.KeyedRecords.{KeyedRecord, has_info_name, info_key, is_in_directory, is_info_key, is_top_key, is_tree_key, keyed_records, top_keys, tree_records}
use Rattle.rio_state.specs.OneMore.{keyed_bytes, HasOneMoreIn, KeyIsRead}
use Rattle.rio_effect.specs.{Laws.{NeedGrows}, More.{KeepsOneMore}}
use Rattle.rio_state.proofs.{CloseSizes.{closing_sum}, Insertion.{filter_more}, ObjectStands.{trees_same}, KeysFollow.{items_more}, MoreRecords.{first_stays, record_more}, Stays.{info_same}}

-- ---- sums

module _ {A : Type 0} (f : A → ℕ) where
  pub sum_more : (old new : List A) (x : A) → HasOneMoreIn old new x → sum_by f new ≡ sum_by f old + f x
  sum_more old new x h =
      let one = ap (sum_by f) h.after ∙ sum_by-append f h.front (x ∷ h.back) in
      let two = sum_by-cons f x h.back in
      let three = ap (sum_by f) h.before ∙ sum_by-append f h.front h.back in
      omega (arith, one, two, three)

pub length_more : {A : Type 0} (old new : List A) (x : A) → HasOneMoreIn old new x → length new ≡ length old + 1
length_more old new x h =
    let one = ap length h.after ∙ length-append h.front (x ∷ h.back) in
    let two = ap length h.before ∙ length-append h.front h.back in
    omega (arith, one, two)

-- ---- one object more

padded_more : (a b : ℕ) → padded_length (a + b) ≤ padded_length a + padded_length b
padded_more a b = omega arith

sums_more : (x y p q r s : ℕ) → x ≤ p + r → y ≤ q + s → 0 + x + y ≤ 0 + p + q + r + s
sums_more x y p q r s one two = omega (arith, one, two)

-- not one of the class list
pub not_info : (head : KeyHead) → is_top_key head ≡ true → is_info_key head ≡ false
not_info head top = by (has_info_name head) (and_parts (is_in_directory head) (not (has_info_name head)) top)
  where
    by : (b : Bool) → (is_in_directory head ≡ true) × (not b ≡ true) → (is_in_directory head && b) ≡ false
    by true parts = absurd (let e = parts.1 in cc)
    by false parts = ap (λ a. a && false) parts.0

module _ (old new : KeptRecords) (head : KeyHead) (name : new.name ≡ old.name) (heads : HasOneMoreIn old.heads new.heads head) (count : new.count ≡ old.count + 1)
    (trees : new.trees ≡ old.trees) where
  list_more : list_length new ≡ list_length old + length (written_key head)
  list_more =
      let sum = sum_more (λ h. length (written_key h)) old.heads new.heads head heads in
      let front : head_length (codes "TFile") new.name ≡ head_length (codes "TFile") old.name = ap (head_length (codes "TFile")) name in
      omega (arith, sum, front)

  free_more : free_length new ≡ free_length old + 10
  free_more =
      let front : head_length (codes "TFile") new.name ≡ head_length (codes "TFile") old.name = ap (head_length (codes "TFile")) name in
      let opened : open_count new ≡ open_count old = ap (sum_by (λ t. length t.baskets)) trees in
      omega (arith, front, count, opened)

  need_more : close_need new ≤ close_need old + padded_length (length (written_key head)) + padded_length 10
  unfolding close_need
  need_more =
      let lists = list_more in
      let frees = free_more in
      let one = subst (λ (n : ℕ). padded_length n ≤ padded_length (list_length old) + padded_length (length (written_key head))) (sym lists) (padded_more (list_length old) (length (written_key head))) in
      let two = subst (λ (n : ℕ). padded_length n ≤ padded_length (free_length old) + padded_length 10) (sym frees) (padded_more (free_length old) 10) in
      let saves : sum_by padded_length (saved_lengths new) ≡ sum_by padded_length (saved_lengths old) = ap (λ ts. sum_by padded_length (flat_map save_lengths ts)) trees in
      let all = sums_more (padded_length (list_length new)) (padded_length (free_length new)) (padded_length (list_length old)) (padded_length (free_length old)) (padded_length (length (written_key head))) (padded_length 10) one two in
      omega (arith, all, saves, closing_sum padded_length new, closing_sum padded_length old)

  pub keeps_one_more : KeepsOneMore old new head
  keeps_one_more = record { name = name; heads = heads; count = count; trees = trees; list = list_more; free = free_more; need = need_more }

pub counted_more : (info : Option KeyedRecord) (a b : List KeyHead) → length b ≡ length a + 1 → kept_count info b ≡ kept_count info a + 1
counted_more None a b e = omega (arith, e)
counted_more (Some r) a b e = omega (arith, e)

-- where the first record stays the first
pub need_grows_by : (pending : PendingRows) (links : List Link) (place : ℕ) (bytes : List ℕ) (h : KeyHead) → name_in (keyed_records (with_record place bytes links)) ≡ name_in (keyed_records links)
    → KeyIsRead place bytes h → is_top_key h ≡ true → is_tree_key h ≡ false → KeepsOneMore (kept_with pending links) (kept_with pending (with_record place bytes links)) h
unfolding kept_with
need_grows_by pending links place bytes h first read top object =
    let old = keyed_records links in
    let new = keyed_records (with_record place bytes links) in
    let x = keyed_bytes h bytes in
    let more = record_more links place bytes h read in
    let tops = filter_more (λ s. is_top_key s.head) x old new more top in
    let heads = items_more (top_keys old) (top_keys new) x tops object in
    let info = info_same old new x more (not_info h top) in
    let long = length_more (item_heads (top_keys old)) (item_heads (top_keys new)) h heads in
    let count : kept_count (info_key new) (item_heads (top_keys new)) ≡ kept_count (info_key old) (item_heads (top_keys old)) + 1 =
    ap (λ (o : Option KeyedRecord). kept_count o (item_heads (top_keys new))) info ∙ counted_more (info_key old) (item_heads (top_keys old)) (item_heads (top_keys new)) long in
    let headers = trees_same (top_keys old) (top_keys new) x tops object in
    let named : length (all_places_named (file_classes (info_key new)) (tree_records (top_keys new))) ≡ length (all_places_named (file_classes (info_key old)) (tree_records (top_keys old)))
    = λ i. length (all_places_named (file_classes (info i)) (headers i)) in
    let put : put_among (file_classes (info_key new)) pending (tree_records (top_keys new)) ≡ put_among (file_classes (info_key old)) pending (tree_records (top_keys old))
    = λ i. put_among (file_classes (info i)) pending (headers i) in
    keeps_one_more (kept_with pending links) (kept_with pending (with_record place bytes links)) h first heads (omega (arith, count, named, put))
    (λ i. trees_among (file_classes (info i)) pending (headers i))

pub need_grows : NeedGrows
need_grows pending file links place bytes h chain read top object = need_grows_by pending links place bytes h (first_stays file links place bytes chain) read top object

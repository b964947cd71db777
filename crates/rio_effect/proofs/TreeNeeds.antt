-- What a file keeps without the header of a tree, and what a close needs then.
use Rattle.std.proofs.Common.{◌≡◌, ℕ, ◌+◌, ◌*◌, ◌≤◌, ◌∙◌, codes, List, [], ◌∷◌, ◌++◌, length, Bool, true, false, cond, not, ◌&&◌, Option, Some, None, refl, sym, ap, subst, arith}
use Rattle.std.proofs.lemmas.Bool.{and_from, and_parts}
use Rattle.std.proofs.lemmas.List.{Concat.{length-flat_map}, Elements.{filter_map-append}, Sums.{sum_by-append}}
use Rattle.std.proofs.lemmas.Grind.{flat_map-append}
use Rattle.std.specs.{List.{cons_option, filter_map, flat_map, sum_by}, Option.{option_map, option_map_or}, Ordering.{eq_by_cmp}, Str.{bytes_eq}, FinMap.{get, get-remove}}
use Rattle.rio_num.specs.Word.{name_order}
use Rattle.rio_num.proofs.BytesEq.{bytes_eq-sym}
use Rattle.rio_key.specs.{Written.{written_key}, declared.head.KeyHead.{KeyHead}}
use Rattle.rio_chain.specs.{Changes.{without_record}, Segments.{Link, chain_end}}
use Rattle.rio_machine.proofs.OrderLaws.{names_total}
use Rattle.rio_machine.specs.{Limits.{head_length}, State.{State, Tree}}
use Rattle.rio_tree.specs.declared.head.TreeHead.{TreeHead}
use Rattle.rio_state.specs.{Contents.{file_classes}, Closing.{KeptRecords, close_need, closing_lengths, free_length, held_beside, held_with, item_heads, kept_count, kept_of, kept_with, list_length, name_in, padded_length}}
use Rattle.rio_state.specs.KeyedRecords.{KeyedRecord, info_key, is_outdated, is_tree_key, is_tree_record, keyed_records, top_keys, tree_records}
use Rattle.rio_state.specs.{OneLess.{NeedsNoMore, links_without}, OneMore.{HasOneMoreIn}, Reads.{AreRecordsOf}, Referred.{is_tree_item}, Trees.{all_places_named, basket_places, header_in, places_named}}
use Rattle.rio_state.specs.TreeLengths.{PendingRows, TreeLengths, idle_length, pending_in, put_among, save_lengths, small_fillings, tree_lengths, trees_among}
use Rattle.rio_state.proofs.{CloseSizes.{closing_sum}, Collected.{name_same}, LessNeeds.{end_less}, LessRecords.{first_is_kept, record_less, top_is_later}, Members.{In, filter_in, in_contained, none_at}}
use Rattle.rio_step.specs.Runs.{saved_of}
use Rattle.rio_effect.specs.{Deletes.{state_without}, TreeDeletes.{HasHeader, KeepsTreeLess, TreeDeleteForgetsRows, TreeDeleteKeepsLess, TreeDeleteNeedsNoMore, put_since}}
use Rattle.rio_effect.proofs.{AllItems.{AllItems}, HeaderLess.{heads_less, headers_less, info, top}, Needs.{counted_more, length_more, sum_more}, PendingNames.{pending_by_names, put_of}, TreeDeletes.{last, saved_behind_is}}

-- ---- lists

-- what an element of a list gives is among what the list's elements give
given_more : {A B : Type 0} (f : A → Option B) (old new : List A) (x : A) (y : B) → HasOneMoreIn old new x → f x ≡ Some y → HasOneMoreIn (filter_map f old) (filter_map f new) y
given_more f old new x y h e = record {
  front = filter_map f h.front;
  back = filter_map f h.back;
  before = ap (filter_map f) h.before ∙ filter_map-append f h.front h.back;
  after = ap (filter_map f) h.after ∙ filter_map-append f h.front (x ∷ h.back) ∙ ap (λ (o : Option _). filter_map f h.front ++ cons_option o (filter_map f h.back)) e;
}

-- the sum of what all elements of a list give, with one more
sum_given : {A : Type 0} (f : ℕ → ℕ) (g : A → List ℕ) (old new : List A) (x : A) → HasOneMoreIn old new x → sum_by f (flat_map g new) ≡ sum_by f (flat_map g old) + sum_by f (g x)
sum_given f g old new x h =
    let one = ap (λ xs. sum_by f (flat_map g xs)) h.after ∙ ap (sum_by f) (flat_map-append g h.front (x ∷ h.back)) ∙ sum_by-append f (flat_map g h.front) (flat_map g (x ∷ h.back)) in
    let two = sum_by-append f (g x) (flat_map g h.back) in
    let three = ap (λ xs. sum_by f (flat_map g xs)) h.before ∙ ap (sum_by f) (flat_map-append g h.front h.back) ∙ sum_by-append f (flat_map g h.front) (flat_map g h.back) in
    omega (arith, one, two, three)

-- ---- what is held

-- beside END
abbrev pub weight : KeptRecords → ℕ
weight kept = sum_by (λ n. n + 3) (closing_lengths kept) + held_beside kept

pub held_is : (pending : PendingRows) (links : List Link) → held_with pending links ≡ chain_end links + weight (kept_with pending links)
unfolding held_with
held_is pending links = omega arith

-- of a tree, beside its key and its records
abbrev pub tree_weight : TreeLengths → ℕ
tree_weight t = sum_by (λ n. n + 3) (save_lengths t) + 10 * length t.baskets + idle_length t + small_fillings t

-- ---- a tree less

module _ (old new : KeptRecords) (head : KeyHead) (t : TreeLengths) (extra : ℕ) (name : new.name ≡ old.name) (heads : HasOneMoreIn new.heads old.heads head) (count : new.count + extra ≡ old.count)
    (trees : HasOneMoreIn new.trees old.trees t) where
  list_is : list_length old ≡ list_length new + length (written_key head)
  list_is =
      let sum = sum_more (λ h. length (written_key h)) new.heads old.heads head heads in
      let front : head_length (codes "TFile") new.name ≡ head_length (codes "TFile") old.name = ap (head_length (codes "TFile")) name in
      omega (arith, sum, front)

  free_is : free_length old ≡ free_length new + 10 * (extra + length t.baskets)
  free_is =
      let front : head_length (codes "TFile") new.name ≡ head_length (codes "TFile") old.name = ap (head_length (codes "TFile")) name in
      let opened = sum_more (λ (l : TreeLengths). length l.baskets) new.trees old.trees t trees in
      omega (arith, front, count, opened)

  pub weight_is : weight old ≡ weight new + length (written_key head) + 10 * extra + tree_weight t
  weight_is =
      let saved = sum_given (λ n. n + 3) save_lengths new.trees old.trees t trees in
      let idle = sum_more idle_length new.trees old.trees t trees in
      let small = sum_more small_fillings new.trees old.trees t trees in
      omega (arith, list_is, free_is, saved, idle, small, closing_sum (λ n. n + 3) old, closing_sum (λ n. n + 3) new)

  need_less : close_need new ≤ close_need old
  unfolding close_need
  need_less =
      let saved = sum_given padded_length save_lengths new.trees old.trees t trees in
      let list : padded_length (list_length new) ≤ padded_length (list_length old) = omega (arith, list_is) in
      let free : padded_length (free_length new) ≤ padded_length (free_length old) = omega (arith, free_is) in
      omega (arith, saved, list, free, closing_sum padded_length old, closing_sum padded_length new)

  pub tree_less_needs : (pending : PendingRows) (links : List Link) (place : ℕ) → old ≡ kept_with pending links → new ≡ kept_with pending (without_record place links) → NeedsNoMore pending links (without_record place links)
  tree_less_needs pending links place old_is new_is =
      let end = end_less place 100 links in
      let old_need = ap close_need old_is in
      let new_need = ap close_need new_is in
      let old_weight = ap weight old_is in
      let new_weight = ap weight new_is in
      record {
        need = omega (arith, need_less, old_need, new_need);
        end = omega (arith, end, need_less, old_need, new_need);
        held = omega (arith, end, weight_is, old_weight, new_weight, held_is pending links, held_is pending (without_record place links));
      }

-- ---- without the header

-- what a file with these records keeps
abbrev pub kept_by : PendingRows → List KeyedRecord → KeptRecords
kept_by pending records = kept_of pending (name_in records) (info_key records) (item_heads (top_keys records)) (tree_records (top_keys records))

pub kept_is : (pending : PendingRows) (links : List Link) → kept_with pending links ≡ kept_by pending (keyed_records links)
unfolding kept_with
kept_is pending links = refl

module _ (old new : List KeyedRecord) (r : KeyedRecord) (less : HasOneMoreIn new old r) (items : AllItems old) (header : is_tree_item (top_keys old) r ≡ true)
    (head : TreeHead) (reads : header_in (file_classes (info_key old)) r ≡ Some head) (name : name_in new ≡ name_in old) (pending : PendingRows) where
  pub keeps_tree_less : KeepsTreeLess pending (file_classes (info_key old)) r head (kept_by pending old) (kept_by pending new)
  unfolding put_among places_named
  keeps_tree_less =
      let tops = top_keys old in
      let left = top_keys new in
      let same = info old new r less items header in
      let classes = file_classes (info_key old) in
      let fewer = headers_less old new r less items header in
      let heads = heads_less old new r less items header in
      let counted = counted_more (info_key old) (item_heads left) (item_heads tops) (length_more (item_heads left) (item_heads tops) r.head heads) in
      let info_count = ap (λ (o : Option KeyedRecord). kept_count o (item_heads left)) same in
      let named = length-flat_map (places_named classes) (tree_records tops) in
      let named_left = length-flat_map (places_named classes) (tree_records left) in
      let named_more = sum_more (λ s. length (places_named classes s)) (tree_records left) (tree_records tops) r fewer in
      let own : length (places_named classes r) ≡ length (basket_places head) = ap (λ (o : Option TreeHead). length (option_map_or basket_places o [])) reads in
      let named_new : length (all_places_named (file_classes (info_key new)) (tree_records left)) ≡ length (all_places_named classes (tree_records left)) =
      ap (λ (o : Option KeyedRecord). length (all_places_named (file_classes o) (tree_records left))) same in
      let put_more = sum_more (λ s. put_of classes s (pending s.head.name)) (tree_records left) (tree_records tops) r fewer in
      let own_put : put_of classes r (pending r.head.name) ≡ put_since pending classes r head = ap (λ (o : Option TreeHead). option_map_or (λ h. put_since pending classes r h) o 0) reads in
      let put_new : put_among (file_classes (info_key new)) pending (tree_records left) ≡ put_among classes pending (tree_records left) =
      ap (λ (o : Option KeyedRecord). put_among (file_classes o) pending (tree_records left)) same in
      record {
        name = name;
        heads = heads;
        count = omega (arith, counted, info_count, named, named_left, named_more, own, named_new, put_more, own_put, put_new);
        trees = subst (λ (o : Option KeyedRecord). HasOneMoreIn (trees_among (file_classes o) pending (tree_records left)) (trees_among classes pending (tree_records tops)) (tree_lengths classes.declared r.head.name (pending r.head.name) head)) (sym same)
            (given_more (λ s. option_map (tree_lengths classes.declared s.head.name (pending s.head.name)) (header_in classes s)) (tree_records left) (tree_records tops) r
            (tree_lengths classes.declared r.head.name (pending r.head.name) head) fewer (ap (option_map (tree_lengths classes.declared r.head.name (pending r.head.name))) reads));
      }

pub tree_delete_keeps_less : TreeDeleteKeepsLess
unfolding kept_with
tree_delete_keeps_less pending file links r head has =
    let old = keyed_records links in
    let new = keyed_records (links_without links r) in
    let less = record_less file links r has.record_is in
    let name = first_is_kept file links r has.record_is (top_is_later file links r has.record_is (top old new r less has.items has.tree)) in
    keeps_tree_less old new r less has.items has.tree head has.header name pending

pub tree_delete_needs_no_more : TreeDeleteNeedsNoMore
tree_delete_needs_no_more pending file links r head has =
    let k = tree_delete_keeps_less pending file links r head has in
    let classes = file_classes (info_key (keyed_records links)) in
    tree_less_needs (kept_with pending links) (kept_with pending (links_without links r)) r.head (tree_lengths classes.declared r.head.name (pending r.head.name) head)
    (1 + length (basket_places head) + put_since pending classes r head) k.name k.heads k.count k.trees pending links r.head.seek refl refl

-- ---- pending rows

module _ (file : List ℕ) (links : List Link) (m : State) (r : KeyedRecord) (head : TreeHead) (has : HasHeader file links r head) (is : AreRecordsOf (keyed_records links) m) where
  abbrev left : List KeyedRecord
  left = top_keys (keyed_records (links_without links r))

  -- no header that is left has the name
  pub other_name : (s : KeyedRecord) → In s (tree_records left) → bytes_eq s.head.name r.head.name ≡ false
  other_name s i = by (bytes_eq s.head.name r.head.name) refl
    where
      keys : In s left × (is_tree_record left s ≡ true)
      keys = filter_in (is_tree_record left) s left i

      by : (b : Bool) → bytes_eq s.head.name r.head.name ≡ b → b ≡ false
      by false e = refl
      by true e =
          let none = (last file links m r head has is).last in
          absurd (none_at (λ t. bytes_eq t.head.name r.head.name && is_tree_key t.head) s left none keys.0 (and_from _ _ e (and_parts (is_tree_key s.head) (not (is_outdated left s)) keys.1).0))

forgotten : (file : List ℕ) (links : List Link) (m : State) (r : KeyedRecord) (head : TreeHead) → HasHeader file links r head → AreRecordsOf (keyed_records links) (saved_of m)
    → (s : KeyedRecord) → In s (tree_records (top_keys (keyed_records (links_without links r)))) → pending_in (state_without m r) s.head.name ≡ pending_in m s.head.name
forgotten file links m r head has is s i =
    let other : eq_by_cmp name_order s.head.name r.head.name ≡ false = name_same s.head.name r ∙ bytes_eq-sym r.head.name s.head.name ∙ other_name file links (saved_of m) r head has is s i in
    let same = get-remove names_total m.trees r.head.name s.head.name ∙ ap (λ b. cond b None (get m.trees s.head.name)) other in
    ap (λ (n : State). pending_in n s.head.name) (sym (saved_behind_is file links m r head has is)) ∙ ap (λ (o : Option Tree). option_map_or (λ t. t.pending) o []) same

pub tree_delete_forgets_rows : TreeDeleteForgetsRows
tree_delete_forgets_rows file links m r head has is =
    pending_by_names (pending_in (state_without m r)) (pending_in m) (links_without links r)
    (λ s c. forgotten file links m r head has is s (in_contained s (tree_records (top_keys (keyed_records (links_without links r)))) c))

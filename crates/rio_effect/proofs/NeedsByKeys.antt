-- The keys beside a file tell what its close needs.
use Rattle.std.proofs.Common.{◌≡◌, inl, inr, ⊎_elim, ℕ, ◌+◌, ◌*◌, ◌∙◌, codes, List, [], ◌∷◌, ◌++◌, length, map, Bool, true, false, not, Option, refl, sym, ap, subst, arith}
use Rattle.std.proofs.{lemmas.Bool.{and_parts}, lemmas.List.{map-append, Sums.{sum_by-cons}}}
use Rattle.std.specs.{List.{flat_map, list_any, sum_by}, Option.{option_map_or}}
use Rattle.rio_key.specs.{Written.{written_key}, declared.head.KeyHead.{KeyHead}}
use Rattle.rio_dir.proofs.TableOrder.{before_itself}
use Rattle.rio_dir.specs.Table.{AreBehind, AreOrdered, comes_before}
use Rattle.rio_machine.specs.{Limits.{head_length}, State.{State}}
use Rattle.rio_state.specs.{Closing.{item_heads, kept_count, kept_with, name_in}, Contents.{file_classes}, DirectoryKeys.{AreKeysOf}, TreeLengths.{put_among, save_lengths, trees_among}, Trees.{all_places_named}}
use Rattle.rio_state.specs.KeyedRecords.{KeyedRecord, has_item, info_key, is_tree_key, is_tree_record, item_of_key, keyed_records, object_records, top_keys, tree_records}
use Rattle.rio_state.specs.{Reads.{AreRecordsOf, are_distinct}, OneMore.{HasOneMoreIn}}
use Rattle.rio_effect.specs.Laws.{NeedByKeys}
use Rattle.rio_state.proofs.{Insertion.{behind, here}, KeyRecords.{distinct_filter}, KeysFollow.{heads_in, in_before, in_still, items_in}, Collected.{own_item}}
use Rattle.rio_state.proofs.Members.{In, any_from, filter_in, in_either, map_in}
use Rattle.rio_effect.proofs.Needs.{length_more, sum_more}

-- ---- lists without an element twice

abbrev Apart : {A : Type 0} → List A → Type 0
Apart [] = Unit {0}
Apart (x ∷ xs) = (In x xs → ⊥) × Apart xs

module _ {A : Type 0} where
  -- the elements without one of them
  record Taken (x : A) (ys : List A) : Type 0 where
    rest : List A
    more : HasOneMoreIn rest ys x
    gone : In x rest → ⊥
    apart : Apart rest

  taken : (x : A) (ys : List A) → In x ys → Apart ys → Taken x ys
  taken x [] i a = absurd i
  taken x (y ∷ ys) (inl same) a = record {
    rest = ys;
    more = subst (λ (z : A). HasOneMoreIn ys (y ∷ ys) z) same (here y ys);
    gone = λ i. a.0 (subst (λ (z : A). In z ys) (sym same) i);
    apart = a.1;
  }
  taken x (y ∷ ys) (inr i) a =
      let t = taken x ys i a.1 in
      record {
        rest = y ∷ t.rest;
        more = behind x y t.rest ys t.more;
        gone = λ j. ⊎_elim (λ same. a.0 (subst (λ (z : A). In z ys) (sym same) i)) t.gone j;
        apart = (λ j. a.0 (in_still t.rest ys x t.more y j), t.apart);
      }

  pub record SameSums (f : A → ℕ) (xs ys : List A) : Type 0 where
    pub sum : sum_by f xs ≡ sum_by f ys
    pub long : length xs ≡ length ys

  same_sums : (f : A → ℕ) (xs ys : List A) → Apart xs → Apart ys → ((x : A) → In x xs → In x ys) → ((x : A) → In x ys → In x xs) → SameSums f xs ys
  same_sums f [] [] a b into back = record { sum = refl; long = refl }
  same_sums f [] (y ∷ ys) a b into back = absurd (back y (inl refl))
  same_sums f (x ∷ xs) ys a b into back =
      let t = taken x ys (into x (inl refl)) b in
      let rest = same_sums f xs t.rest a.1 t.apart
      (λ z i. ⊎_elim (λ same. absurd (a.0 (subst (λ (w : A). In w xs) (sym same) i))) (λ j. j) (in_before t.rest ys x t.more z (into z (inr i))))
      (λ z i. ⊎_elim (λ same. absurd (t.gone (subst (λ (w : A). In w t.rest) (sym same) i))) (λ j. j) (back z (in_still t.rest ys x t.more z i))) in
      let own = sum_by-cons f x xs in
      let other = sum_more f t.rest ys x t.more in
      let long = length_more t.rest ys x t.more in
      record { sum = omega (arith, own, other, rest.sum); long = omega (arith, long, rest.long) }

  apart_append : (xs ys : List A) → Apart xs → Apart ys → ((x : A) → In x xs → In x ys → ⊥) → Apart (xs ++ ys)
  apart_append [] ys a b none = b
  apart_append (x ∷ xs) ys a b none =
      (λ i. ⊎_elim a.0 (none x (inl refl)) (in_either x xs ys i), apart_append xs ys a.1 b (λ z i j. none z (inr i) j))

-- ---- keys

pub behind_not_in : (h : KeyHead) (heads : List KeyHead) → AreBehind h.name h.cycle heads → In h heads → ⊥
behind_not_in h [] are i = i
behind_not_in h (k ∷ ks) are (inl same) =
    let e : comes_before h.name h.cycle h.name h.cycle ≡ true = ap (λ (x : KeyHead). comes_before h.name h.cycle x.name x.cycle) (sym same) ∙ are.0 in
    let f = sym (before_itself h.name h.cycle) ∙ e in cc
behind_not_in h (k ∷ ks) are (inr i) = behind_not_in h ks are.1 i

heads_apart : (heads : List KeyHead) → AreOrdered heads → Apart heads
heads_apart [] are = tt
heads_apart (h ∷ hs) are = (behind_not_in h hs are.0, heads_apart hs are.1)

not_any : (b : Bool) → not b ≡ true → b ≡ true → ⊥
not_any true e f = cc
not_any false e f = cc

records_apart : (rs : List KeyedRecord) → are_distinct rs ≡ true → Apart (map (λ r. r.head) rs)
records_apart [] d = tt
records_apart (r ∷ rs) d =
    let parts = and_parts (not (list_any (has_item (item_of_key r.head)) rs)) (are_distinct rs) d in (
      λ i.
          let from = map_in (λ (s : KeyedRecord). s.head) r.head rs i in
          let own : has_item (item_of_key r.head) from.0 ≡ true = ap (λ (h : KeyHead). has_item (item_of_key h) from.0) (sym from.2) ∙ own_item from.0 in
          not_any _ parts.0 (any_from (has_item (item_of_key r.head)) from.0 rs from.1 own),
      records_apart rs parts.1,
    )

-- an object's head isn't a tree's
apart_heads : (tops : List KeyedRecord) (head : KeyHead) → In head (map (λ r. r.head) (object_records tops)) → In head (map (λ r. r.head) (tree_records tops)) → ⊥
apart_heads tops head i j =
    let object = map_in (λ (s : KeyedRecord). s.head) head (object_records tops) i in
    let tree = map_in (λ (s : KeyedRecord). s.head) head (tree_records tops) j in
    let is_tree = (and_parts (is_tree_key tree.0.head) _ (filter_in (is_tree_record tops) tree.0 tops tree.1).1).0 in
    let no_tree = (filter_in (λ s. not (is_tree_key s.head)) object.0 tops object.1).1 in
    not_any _ no_tree (ap is_tree_key (object.2 ∙ sym tree.2) ∙ is_tree)

items_apart : (tops : List KeyedRecord) → are_distinct tops ≡ true → Apart (item_heads tops)
items_apart tops d =
    let objects = records_apart (object_records tops) (distinct_filter (λ s. not (is_tree_key s.head)) tops d) in
    let trees = records_apart (tree_records tops) (distinct_filter (is_tree_record tops) tops d) in
    subst Apart (sym (map-append (λ (r : KeyedRecord). r.head) (object_records tops) (tree_records tops)))
    (apart_append (map (λ r. r.head) (object_records tops)) (map (λ r. r.head) (tree_records tops)) objects trees (apart_heads tops))

counted_same : (info : Option KeyedRecord) (a b : List KeyHead) → length a ≡ length b → kept_count info a ≡ kept_count info b
counted_same info a b e = ap (λ (n : ℕ). 1 + option_map_or (λ r. 1) info 0 + n) e

-- the keys beside a file are those of its items, each once
pub items_same : (records : List KeyedRecord) (heads : List KeyHead) (m : State) → AreKeysOf records heads → AreRecordsOf records m → (f : KeyHead → ℕ) → SameSums f heads (item_heads (top_keys records))
items_same records heads m are is f =
    same_sums f heads (item_heads (top_keys records)) (heads_apart heads are.ordered) (items_apart (top_keys records) is.stand.distinct) (heads_in records heads are) (items_in records heads are)

pub need_by_keys : NeedByKeys
unfolding kept_with
need_by_keys pending links heads m are is =
    let records = keyed_records links in
    let tops = top_keys records in
    let front = head_length (codes "TFile") (name_in records) in
    let same = items_same records heads m are is (λ (h : KeyHead). length (written_key h)) in
    let count = counted_same (info_key records) heads (item_heads tops) same.long in
    let sum = same.sum in
    let headers = tree_records tops in
    let classes = file_classes (info_key records) in
    let trees = trees_among classes pending headers in
    let opened = sum_by (λ t. length t.baskets) trees in
    let beside = length (all_places_named classes headers) in
    λ i. flat_map save_lengths trees ++ (front + 4 + sum i) ∷ (front + 10 * (count i + beside + put_among classes pending headers + opened + 2)) ∷ []

-- Each key beside a file is that of a record that stands for an object.
use Rattle.std.proofs.Common.{◌≡◌, ◌⊎◌, inl, inr, ◌∙◌, List, [], ◌∷◌, ◌++◌, Bool, true, false, cond, not, ◌&&◌, ◌==◌, Option, Some, None, refl, sym, ap}
use Rattle.std.proofs.{lemmas.Bool.{and_from, and_parts, eqb-true, not-true}, lemmas.Slice.Eq.{bytes_eq-Decides}}
use Rattle.std.specs.{Prelude.{is_some, option_and_then}, FinMap.{get}, List.{filter, find, list_any}, Str.{bytes_eq}}
use Rattle.rio_num.proofs.Cases.{some_of}
use Rattle.rio_format.specs.{declared.class.ClassDef.{ClassDef}, declared.value.Value.{Value}}
use Rattle.rio_key.specs.declared.head.KeyHead.{KeyHead}
use Rattle.rio_machine.specs.State.{NameAndCycle, State}
use Rattle.rio_state.specs.{Contents.{object_in, state_classes}, DirectoryKeys.{AreKeysOf}}
use Rattle.rio_state.specs.KeyedRecords.{KeyedRecord, has_item, info_key, is_mixed_name, is_tree_key, is_tree_record, item_of_key, object_records, top_keys, tree_records}
use Rattle.rio_state.specs.Reads.{AreRecordsOf, are_distinct}
use Rattle.rio_state.proofs.{KeysFollow.{heads_in, items_in}, Members.{In, all_at, any_from, filter_in, found, in_left, in_map, in_either, map_in, none_at}, Collected.{own_item}}
use Rattle.rio_state.proofs.ObjectStands.{any_filter}

-- ---- distinct keys

pub distinct_filter : (q : KeyedRecord → Bool) (rs : List KeyedRecord) → are_distinct rs ≡ true → are_distinct (filter q rs) ≡ true
distinct_filter q [] d = refl
distinct_filter q (r ∷ rs) d =
    let parts = and_parts (not (list_any (has_item (item_of_key r.head)) rs)) (are_distinct rs) d in
    by (q r) parts.0 (distinct_filter q rs parts.1)
  where
    by : (b : Bool) → not (list_any (has_item (item_of_key r.head)) rs) ≡ true → are_distinct (filter q rs) ≡ true → are_distinct (cond b (r ∷ filter q rs) (filter q rs)) ≡ true
    by true new rest = and_from _ _ (ap not (any_filter (has_item (item_of_key r.head)) q rs (not-true _ new))) rest
    by false new rest = rest

-- a record has the item of its key alone
pub item_is : (item : NameAndCycle) (r : KeyedRecord) → has_item item r ≡ true → (r.head.name ≡ item.0) × (r.head.cycle ≡ item.1)
item_is item r e =
    let parts = and_parts (bytes_eq r.head.name item.0) (r.head.cycle == item.1) e in
    ((bytes_eq-Decides r.head.name item.0).0 parts.0, eqb-true r.head.cycle item.1 parts.1)

has_same : (item : NameAndCycle) (r s : KeyedRecord) → has_item item r ≡ true → has_item item s ≡ true → has_item (item_of_key r.head) s ≡ true
has_same item r s e f =
    let is = item_is item r e in
    (λ i. bytes_eq s.head.name (is.0 i) && (s.head.cycle == is.1 i)) ∙ f

-- the record of an item is the one that is found
pub distinct_found : (item : NameAndCycle) (r : KeyedRecord) (rs : List KeyedRecord) → are_distinct rs ≡ true → In r rs → has_item item r ≡ true → find (has_item item) rs ≡ Some r
distinct_found item r [] d i e = absurd i
distinct_found item r (s ∷ rs) d (inl same) e =
    let there : has_item item s ≡ true = ap (has_item item) same ∙ e in
    ap (λ b. cond b (Some s) (find (has_item item) rs)) there ∙ ap (λ (t : KeyedRecord). let o : Option KeyedRecord = Some t in o) same
distinct_found item r (s ∷ rs) d (inr i) e =
    let parts = and_parts (not (list_any (has_item (item_of_key s.head)) rs)) (are_distinct rs) d in
    by (has_item item s) refl (not-true _ parts.0) (distinct_found item r rs parts.1 i e)
  where
    by : (b : Bool) → has_item item s ≡ b → list_any (has_item (item_of_key s.head)) rs ≡ false → find (has_item item) rs ≡ Some r → cond b (Some s) (find (has_item item) rs) ≡ Some r
    by true is none rest = absurd (none_at (has_item (item_of_key s.head)) r rs none i (has_same item s r is e))
    by false is none rest = rest

-- ---- the record of a key

-- a record that holds an object, under the name and cycle of its key
pub record IsObject (records : List KeyedRecord) (m : State) (r : KeyedRecord) : Type 0 where
  pub v : Value
  pub among : In r (object_records (top_keys records))
  pub object : get m.objects (item_of_key r.head) ≡ Some v
  pub read : object_in m.classes r ≡ Some v

module _ (records : List KeyedRecord) (m : State) (is : AreRecordsOf records m) where
  abbrev tops : List KeyedRecord
  tops = top_keys records

  same_classes : (r : KeyedRecord) → object_in m.classes r ≡ object_in (state_classes (info_key records)) r
  same_classes r = ap (λ (cs : List ClassDef). object_in cs r) is.stand.classes

  pub object_of : (r : KeyedRecord) → In r (object_records tops) → IsObject records m r
  object_of r i =
      let some = some_of (object_in m.classes r) (ap is_some (same_classes r) ∙ all_at (λ s. is_some (object_in (state_classes (info_key records)) s)) r (object_records tops) is.stand.readable i) in
      let distinct = distinct_filter (λ s. not (is_tree_key s.head)) tops is.stand.distinct in
      let there = distinct_found (item_of_key r.head) r (object_records tops) distinct i (own_item r) in
      record {
        v = some.0;
        among = i;
        object = is.stand.objects (item_of_key r.head) ∙ ap (option_and_then (object_in (state_classes (info_key records)))) there ∙ sym (same_classes r) ∙ some.1;
        read = some.1;
      }

  -- the record that has an object
  pub record Holder (item : NameAndCycle) (v : Value) : Type 0 where
    pub r : KeyedRecord
    pub among : In r (object_records tops)
    pub has : has_item item r ≡ true
    pub read : object_in m.classes r ≡ Some v

  pub holder : (item : NameAndCycle) (v : Value) → get m.objects item ≡ Some v → Holder item v
  holder item v e = by (find (has_item item) (object_records tops)) refl (sym (is.stand.objects item) ∙ e)
    where
      by : (o : Option KeyedRecord) → find (has_item item) (object_records tops) ≡ o → option_and_then (object_in (state_classes (info_key records))) o ≡ Some v → Holder item v
      by None there e = absurd cc
      by (Some r) there e = let f = found (has_item item) r (object_records tops) there in record { r = r; among = f.among; has = f.passes; read = same_classes r ∙ e }

  -- ---- keys

  -- the key is that of an object's record
  pub record ObjectOf (head : KeyHead) : Type 0 where
    pub r : KeyedRecord
    pub head_is : r.head ≡ head
    pub among : In r (object_records tops)

  pub record TreeOf (head : KeyHead) : Type 0 where
    pub r : KeyedRecord
    pub head_is : r.head ≡ head
    pub among : In r (tree_records tops)

  module _ (heads : List KeyHead) (keys : AreKeysOf records heads) where
    pub key_record : (head : KeyHead) → In head heads → ObjectOf head ⊎ TreeOf head
    key_record head i =
        let from = map_in (λ (r : KeyedRecord). r.head) head (object_records tops ++ tree_records tops) (heads_in records heads keys head i) in
        by from.0 from.2 (in_either from.0 (object_records tops) (tree_records tops) from.1)
      where
        by : (r : KeyedRecord) → r.head ≡ head → In r (object_records tops) ⊎ In r (tree_records tops) → ObjectOf head ⊎ TreeOf head
        by r same (inl j) = inl (record { r = r; head_is = same; among = j })
        by r same (inr j) = inr (record { r = r; head_is = same; among = j })

    -- the key of an object's record is among the keys
    pub record_key : (r : KeyedRecord) → In r (object_records tops) → In r.head heads
    record_key r i =
        items_in records heads keys r.head (in_map (λ (s : KeyedRecord). s.head) r (object_records tops ++ tree_records tops) (in_left r (object_records tops) (tree_records tops) i))

  -- a tree doesn't have the name of an object
  pub tree_apart : (r s : KeyedRecord) → In r (tree_records tops) → In s (object_records tops) → r.head.name ≡ s.head.name → ⊥
  tree_apart r s i j same =
      let tree = filter_in (is_tree_record tops) r tops i in
      let object = filter_in (λ t. not (is_tree_key t.head)) s tops j in
      let is_tree = (and_parts (is_tree_key r.head) _ tree.1).0 in
      let one = any_from (λ t. bytes_eq t.head.name s.head.name && is_tree_key t.head) r tops tree.0 (and_from _ _ ((bytes_eq-Decides r.head.name s.head.name).1 same) is_tree) in
      let two = any_from (λ t. bytes_eq t.head.name s.head.name && not (is_tree_key t.head)) s tops object.0 (and_from _ _ ((bytes_eq-Decides s.head.name s.head.name).1 refl) object.1) in
      let mixed : is_mixed_name tops s.head.name ≡ true = and_from _ _ one two in
      let apart = all_at (λ t. not (is_mixed_name tops t.head.name)) s tops is.stand.apart object.0 in
      let e : not true ≡ true = ap not (sym mixed) ∙ apart in absurd cc

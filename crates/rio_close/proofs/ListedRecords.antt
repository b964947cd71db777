-- The records that a key list names stand for the same state as all those of objects and trees.
use Rattle.std.proofs.Common.{◌≡◌, ◌⊎◌, inl, inr, ℕ, ◌≤◌, ◌∙◌, List, [], ◌∷◌, ◌++◌, map, Bool, true, false, cond, not, ◌&&◌, ◌==◌, Option, Some, None, nat_lt, refl, sym, ap, subst, arith}
use Rattle.std.proofs.{lemmas.Bool.{and_from, and_parts, eq-eqb, ltb-false, not-true}, lemmas.Option.{same_Some}, lemmas.Slice.Eq.{bytes_eq-Decides}}
use Rattle.std.specs.{Prelude.{is_some, option_and_then}, List.{find, list_all, list_any}, Str.{bytes_eq}}
use Rattle.rio_format.specs.declared.class.ClassDef.{ClassDef}
use Rattle.rio_key.specs.declared.head.KeyHead.{KeyHead}
use Rattle.rio_dir.specs.Table.{AreBehind, AreOrdered, comes_before}
use Rattle.rio_dir.proofs.TableOrder.{before_itself}
use Rattle.rio_machine.specs.State.{NameAndCycle, State}
use Rattle.rio_state.specs.{Contents.{object_in, state_classes}, DirectoryKeys.{AreKeysOf}}
use Rattle.rio_state.specs.KeyedRecords.{KeyedRecord, has_item, info_key, is_mixed_name, is_outdated, is_top_key, is_tree_key, is_tree_record, item_of_key, object_records, top_keys, tree_records}
use Rattle.rio_state.specs.{Reads.{AreRecordsOf, StandsForState, are_distinct, is_named_key}, Trees.{TreesBeside, all_places_named, basket_places, places_named, records_before, tree_of, trees_beside}}
use Rattle.rio_state.proofs.{KeyRecords.{ObjectOf, TreeOf, distinct_found, item_is, key_record}, Collected.{own_item}, KeysFollow.{items_in}}
use Rattle.rio_state.proofs.Members.{In, all_at, all_from, any_from, filter_in, found, in_filter, in_left, in_map, in_right, map_in, none_at, none_from, passing}
use Rattle.rio_state.proofs.{Places.{flat_map_in}, TreeGone.{once_fewer, tree_from}, TreesSame.{found_agree, holds_tree, in_flat_map}}

-- ---- lists

module _ {A : Type 0} (p : A → Bool) where
  -- what passes among some of them passes among all
  any_within : (xs ys : List A) → ((x : A) → In x xs → In x ys) → list_any p xs ≡ true → list_any p ys ≡ true
  any_within xs ys within e = let x = passing p xs e in any_from p x.x ys (within x.x x.among) x.passes

  not_missed : (x : A) (xs : List A) → In x xs → p x ≡ true → find p xs ≡ None → ⊥
  not_missed x [] i e none = i
  not_missed x (y ∷ ys) (inl same) e none =
      let there : cond (p y) (Some y) (find p ys) ≡ Some y = ap (λ b. cond b (Some y) (find p ys)) (ap p same ∙ e) in
      absurd (let clash : None ≡ Some y = sym none ∙ there in cc)
  not_missed x (y ∷ ys) (inr i) e none = by (p y) none (not_missed x ys i e)
    where
      by : (b : Bool) → cond b (Some y) (find p ys) ≡ None → (find p ys ≡ None → ⊥) → ⊥
      by true none rest = absurd cc
      by false none rest = rest none

  -- The first that passes is the same in two lists that have the same elements, where no two that pass differ.
  found_in_both : (xs ys : List A) → ((x : A) → In x xs → In x ys) → ((x : A) → In x ys → In x xs)
      → ((x y : A) → In x xs → In y xs → p x ≡ true → p y ≡ true → x ≡ y) → find p xs ≡ find p ys
  found_in_both xs ys there here one = by (find p xs) refl (find p ys) refl
    where
      by : (o : Option A) → find p xs ≡ o → (q : Option A) → find p ys ≡ q → o ≡ q
      by (Some x) e (Some y) f =
          let a = found p x xs e in
          let b = found p y ys f in
          ap (λ (z : A). let o : Option A = Some z in o) (one x y a.among (here y b.among) a.passes b.passes)
      by (Some x) e None f = let a = found p x xs e in absurd (not_missed x ys (there x a.among) a.passes f)
      by None e (Some y) f = let b = found p y ys f in absurd (not_missed y xs (here y b.among) b.passes e)
      by None e None f = refl

-- ---- heads in order

own_first : (name : List ℕ) (cycle : ℕ) → comes_before name cycle name cycle ≡ true → ⊥
own_first name cycle e = let clash : false ≡ true = sym (before_itself name cycle) ∙ e in absurd cc

behind_other : (name : List ℕ) (cycle : ℕ) (heads : List KeyHead) (h : KeyHead) → AreBehind name cycle heads → In h heads → h.name ≡ name → h.cycle ≡ cycle → ⊥
behind_other name cycle [] h are i n c = absurd i
behind_other name cycle (k ∷ ks) h are (inl same) n c =
    own_first name cycle (sym (λ i. comes_before name cycle (n i) (c i)) ∙ ap (λ (x : KeyHead). comes_before name cycle x.name x.cycle) (sym same) ∙ are.0)
behind_other name cycle (k ∷ ks) h are (inr i) n c = behind_other name cycle ks h are.1 i n c

pub heads_distinct : (rs : List KeyedRecord) → AreOrdered (map (λ r. r.head) rs) → are_distinct rs ≡ true
heads_distinct [] are = refl
heads_distinct (r ∷ rs) are =
    and_from _ _
    (ap not (none_from (has_item (item_of_key r.head)) rs (λ s i e.
    let is = item_is (item_of_key r.head) s e in
    behind_other r.head.name r.head.cycle (map (λ t. t.head) rs) s.head are.0 (in_map_head s rs i) is.0 is.1)))
    (heads_distinct rs are.1)
  where
    in_map_head : (s : KeyedRecord) (xs : List KeyedRecord) → In s xs → In s.head (map (λ t. t.head) xs)
    in_map_head s [] i = absurd i
    in_map_head s (x ∷ xs) (inl same) = inl (ap (λ (t : KeyedRecord). t.head) same)
    in_map_head s (x ∷ xs) (inr i) = inr (in_map_head s xs i)

-- ---- the records of the keys

module _ (records : List KeyedRecord) (m : State) (is : AreRecordsOf records m) (heads : List KeyHead) (keys : AreKeysOf records heads) where
  abbrev tops : List KeyedRecord
  tops = top_keys records

  abbrev classes : List ClassDef
  classes = state_classes (info_key records)

  abbrev is_object : KeyedRecord → Bool
  is_object r = not (is_tree_key r.head)

  -- the record of an object, or the last header of a tree
  abbrev pub IsItem : KeyedRecord → Type 0
  IsItem r = In r (object_records tops) ⊎ In r (tree_records tops)

  -- a record for each of some keys
  pub record Listing (hs : List KeyHead) : Type 0 where
    pub listed : List KeyedRecord
    pub heads_are : map (λ r. r.head) listed ≡ hs
    pub items : (r : KeyedRecord) → In r listed → IsItem r

  one_more : (h : KeyHead) (hs : List KeyHead) (r : KeyedRecord) → r.head ≡ h → IsItem r → Listing hs → Listing (h ∷ hs)
  one_more h hs r head item rest = record { listed = r ∷ rest.listed; heads_are = λ i. head i ∷ rest.heads_are i; items = each }
    where
      each : (s : KeyedRecord) → (r ≡ s) ⊎ In s rest.listed → IsItem s
      each s (inl same) = subst IsItem same item
      each s (inr i) = rest.items s i

  lists : (hs : List KeyHead) → ((h : KeyHead) → In h hs → In h heads) → Listing hs
  lists [] among = record { listed = []; heads_are = refl; items = λ r i. absurd i }
  lists (h ∷ hs) among = by (key_record records m is heads keys h (among h (inl refl))) (lists hs (λ k i. among k (inr i)))
    where
      by : ObjectOf records m is h ⊎ TreeOf records m is h → Listing hs → Listing (h ∷ hs)
      by (inl o) rest = one_more h hs o.r o.head_is (inl o.among) rest
      by (inr t) rest = one_more h hs t.r t.head_is (inr t.among) rest

  pub listing : Listing heads
  listing = lists heads (λ h i. i)

  -- the key of an item is among the keys
  item_key : (r : KeyedRecord) → IsItem r → In r.head heads
  item_key r item = items_in records heads keys r.head (in_map (λ (s : KeyedRecord). s.head) r (object_records tops ++ tree_records tops) (by item))
    where
      by : IsItem r → In r (object_records tops ++ tree_records tops)
      by (inl i) = in_left r (object_records tops) (tree_records tops) i
      by (inr i) = in_right r (object_records tops) (tree_records tops) i

  item_top : (r : KeyedRecord) → IsItem r → In r tops
  item_top r (inl i) = (filter_in is_object r tops i).0
  item_top r (inr i) = (filter_in (is_tree_record tops) r tops i).0

  -- ---- all records of objects and trees

  -- two with one item are one
  one_item : (item : NameAndCycle) (r s : KeyedRecord) → In r tops → In s tops → has_item item r ≡ true → has_item item s ≡ true → r ≡ s
  one_item item r s i j e f = same_Some r s (sym (distinct_found item r tops is.stand.distinct i e) ∙ distinct_found item s tops is.stand.distinct j f)

  -- the last header of a tree
  record IsLast (r : KeyedRecord) : Type 0 where
    top : In r tops
    tree : is_tree_key r.head ≡ true
    last : is_outdated tops r ≡ false

  is_last : (r : KeyedRecord) → In r (tree_records tops) → IsLast r
  is_last r i =
      let f = filter_in (is_tree_record tops) r tops i in
      let parts = and_parts (is_tree_key r.head) (not (is_outdated tops r)) f.1 in
      record { top = f.0; tree = parts.0; last = not-true _ parts.1 }

  no_later : (r s : KeyedRecord) → IsLast r → IsLast s → s.head.name ≡ r.head.name → s.head.cycle ≤ r.head.cycle
  no_later r s a b same = by (nat_lt r.head.cycle s.head.cycle) refl
    where
      by : (c : Bool) → nat_lt r.head.cycle s.head.cycle ≡ c → s.head.cycle ≤ r.head.cycle
      by true e =
          absurd (none_at (λ t. is_tree_key t.head && bytes_eq t.head.name r.head.name && nat_lt r.head.cycle t.head.cycle) s tops a.last b.top
          (and_from _ _ (and_from _ _ b.tree ((bytes_eq-Decides s.head.name r.head.name).1 same)) e))
      by false e = ltb-false _ _ e

  -- two of one name are one
  one_name : (name : List ℕ) (r s : KeyedRecord) → In r (tree_records tops) → In s (tree_records tops) → bytes_eq r.head.name name ≡ true → bytes_eq s.head.name name ≡ true → r ≡ s
  one_name name r s i j e f =
      let a = is_last r i in
      let b = is_last s j in
      let same : s.head.name ≡ r.head.name = (bytes_eq-Decides s.head.name name).0 f ∙ sym ((bytes_eq-Decides r.head.name name).0 e) in
      let cycle : s.head.cycle ≡ r.head.cycle = omega (arith, no_later r s a b same, no_later s r b a (sym same)) in
      one_item (item_of_key r.head) r s a.top b.top (own_item r) (and_from _ _ ((bytes_eq-Decides s.head.name r.head.name).1 same) (eq-eqb s.head.cycle r.head.cycle cycle))

  -- ---- any listing of all keys

  module _ (l : Listing heads) where
    pub in_tops : (r : KeyedRecord) → In r l.listed → In r tops
    in_tops r i = item_top r (l.items r i)

    -- each item's record is listed
    is_listed : (r : KeyedRecord) → IsItem r → In r l.listed
    is_listed r item =
        let at = map_in (λ (s : KeyedRecord). s.head) r.head l.listed (subst (In r.head) (sym l.heads_are) (item_key r item)) in
        let has : has_item (item_of_key r.head) at.0 ≡ true = ap (λ (h : KeyHead). bytes_eq h.name r.head.name && (h.cycle == r.head.cycle)) at.2 ∙ own_item r in
        subst (λ (t : KeyedRecord). In t l.listed) (one_item (item_of_key r.head) at.0 r (in_tops at.0 at.1) (item_top r item) has (own_item r)) at.1

    -- ---- objects

    objects_here : (r : KeyedRecord) → In r (object_records l.listed) → In r (object_records tops)
    objects_here r i = let f = filter_in is_object r l.listed i in in_filter is_object r tops (in_tops r f.0) f.1

    objects_there : (r : KeyedRecord) → In r (object_records tops) → In r (object_records l.listed)
    objects_there r i = in_filter is_object r l.listed (is_listed r (inl i)) (filter_in is_object r tops i).1

    -- the record of an item is the same
    same_object : (item : NameAndCycle) → find (has_item item) (object_records tops) ≡ find (has_item item) (object_records l.listed)
    same_object item =
        found_in_both (has_item item) (object_records tops) (object_records l.listed) objects_there objects_here
        (λ r s i j e f. one_item item r s (item_top r (inl i)) (item_top s (inl j)) e f)

    -- ---- trees

    trees_here : (r : KeyedRecord) → In r (tree_records l.listed) → In r (tree_records tops)
    trees_here r i = by (l.items r f.0)
      where
        f : In r l.listed × (is_tree_record l.listed r ≡ true)
        f = filter_in (is_tree_record l.listed) r l.listed i

        by : IsItem r → In r (tree_records tops)
        by (inl j) =
            let e : not true ≡ true = ap not (sym (and_parts (is_tree_key r.head) (not (is_outdated l.listed r)) f.1).0) ∙ (filter_in is_object r tops j).1 in
            absurd cc
        by (inr j) = j

    trees_there : (r : KeyedRecord) → In r (tree_records tops) → In r (tree_records l.listed)
    trees_there r i =
        let a = is_last r i in
        let none : is_outdated l.listed r ≡ false =
        none_from (λ s. is_tree_key s.head && bytes_eq s.head.name r.head.name && nat_lt r.head.cycle s.head.cycle) l.listed
        (λ s j e. none_at (λ t. is_tree_key t.head && bytes_eq t.head.name r.head.name && nat_lt r.head.cycle t.head.cycle) s tops a.last (in_tops s j) e) in
        in_filter (is_tree_record l.listed) r l.listed (is_listed r (inr i)) (and_from _ _ a.tree (ap not none))

    -- the header of a name is the same
    same_header : (name : List ℕ) → find (λ r. bytes_eq r.head.name name) (tree_records tops) ≡ find (λ r. bytes_eq r.head.name name) (tree_records l.listed)
    same_header name =
        found_in_both (λ r. bytes_eq r.head.name name) (tree_records tops) (tree_records l.listed) trees_there trees_here (one_name name)

    abbrev beside_tops : TreesBeside
    beside_tops = trees_beside (info_key records) records tops

    abbrev beside_listed : TreesBeside
    beside_listed = trees_beside (info_key records) records l.listed

    tree_read : (r : KeyedRecord) → In r (tree_records l.listed) → is_some (tree_of beside_tops r) ≡ true
    tree_read r i = all_at (λ s. is_some (tree_of beside_tops s)) r (tree_records tops) is.stand.tree_readable (trees_here r i)

    -- and it is read as the same tree
    same_tree : (r : KeyedRecord) → In r (tree_records l.listed) → tree_of beside_listed r ≡ tree_of beside_tops r
    same_tree r i =
        let h = holds_tree beside_tops r (tree_read r i) in
        tree_from beside_listed r h.head h.rows h.header h.rows_are
        (once_fewer (all_places_named beside_tops.classes (records_before (tree_records l.listed) r)) (all_places_named beside_tops.classes (records_before (tree_records tops) r)) (basket_places h.head) within h.once)
        ∙ sym h.tree
      where
        within : (p : ℕ) → In p (all_places_named beside_tops.classes (records_before (tree_records l.listed) r)) → In p (all_places_named beside_tops.classes (records_before (tree_records tops) r))
        within p j =
            let from = flat_map_in (places_named beside_tops.classes) p (records_before (tree_records l.listed) r) j in
            let parts = filter_in (λ t. nat_lt t.head.seek r.head.seek) from.0 (tree_records l.listed) from.1 in
            let there = in_filter (λ t. nat_lt t.head.seek r.head.seek) from.0 (tree_records tops) (trees_here from.0 parts.0) parts.1 in
            in_flat_map (places_named beside_tops.classes) p from.0 (records_before (tree_records tops) r) there from.2

    -- ---- the state

    apart_still : (name : List ℕ) → is_mixed_name tops name ≡ false → is_mixed_name l.listed name ≡ false
    apart_still name none = by (is_mixed_name l.listed name) refl
      where
        by : (b : Bool) → is_mixed_name l.listed name ≡ b → b ≡ false
        by false e = refl
        by true e =
            let parts = and_parts (list_any (λ s. bytes_eq s.head.name name && is_tree_key s.head) l.listed) (list_any (λ s. bytes_eq s.head.name name && not (is_tree_key s.head)) l.listed) e in
            let tree = any_within (λ s. bytes_eq s.head.name name && is_tree_key s.head) l.listed tops in_tops parts.0 in
            let object = any_within (λ s. bytes_eq s.head.name name && not (is_tree_key s.head)) l.listed tops in_tops parts.1 in
            sym (and_from _ _ tree object) ∙ none

    pub listed_stand : StandsForState records (info_key records) l.listed m
    listed_stand = record {
      listed = is.stand.listed;
      classes = is.stand.classes;
      named = all_from (λ r. is_named_key r.head) l.listed (λ r i. all_at (λ s. is_named_key s.head) r tops is.stand.named (in_tops r i));
      distinct = heads_distinct l.listed (subst AreOrdered (sym l.heads_are) keys.ordered);
      apart = all_from (λ r. not (is_mixed_name l.listed r.head.name)) l.listed (λ r i.
          ap not (apart_still r.head.name (not-true _ (all_at (λ s. not (is_mixed_name tops s.head.name)) r tops is.stand.apart (in_tops r i)))));
      readable = all_from (λ r. is_some (object_in classes r)) (object_records l.listed) (λ r i.
          all_at (λ s. is_some (object_in classes s)) r (object_records tops) is.stand.readable (objects_here r i));
      objects = λ item. is.stand.objects item ∙ ap (option_and_then (object_in classes)) (same_object item);
      tree_readable = all_from (λ r. is_some (tree_of beside_listed r)) (tree_records l.listed) (λ r i. ap is_some (same_tree r i) ∙ tree_read r i);
      trees = λ name. is.stand.trees name
          ∙ ap (option_and_then (tree_of beside_tops)) (same_header name)
          ∙ sym (found_agree (tree_of beside_listed) (tree_of beside_tops) (λ r. bytes_eq r.head.name name) (tree_records l.listed) same_tree);
    }

    pub listed_tops : list_all (λ r. is_top_key r.head) l.listed ≡ true
    listed_tops = all_from (λ r. is_top_key r.head) l.listed (λ r i. (filter_in (λ s. is_top_key s.head) r records (in_tops r i)).1)

    pub in_records : (r : KeyedRecord) → In r l.listed → In r records
    in_records r i = (filter_in (λ s. is_top_key s.head) r records (in_tops r i)).0

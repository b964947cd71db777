-- Records that stand for a state, with the record of an object more.
use Rattle.std.proofs.Common.{◌≡◌, ℕ, ◌∙◌, List, [], ◌∷◌, ◌++◌, Bool, true, false, cond, not, ◌&&◌, Option, Some, refl, sym, ap, subst}
use Rattle.std.proofs.{lemmas.Bool.{and_from, and_left, and_parts, and_right, not-true, or_parts}, lemmas.List.Elements.{filter_agree}}
use Rattle.std.proofs.{lemmas.Map.Views.{tells_apart}, lemmas.Slice.Eq.{bytes_eq-Decides}}
use Rattle.std.specs.{Prelude.{is_some, nat_lt, option_and_then}, FinMap.{get, get-insert, insert}, List.{filter, list_all, list_any}, Str.{bytes_eq}}
use Rattle.rio_format.specs.{declared.class.ClassDef.{ClassDef}, declared.value.Value.{Value}}
use Rattle.rio_machine.proofs.OrderLaws.{items_tie, items_total}
use Rattle.rio_machine.specs.State.{NameAndCycle, State}
use Rattle.rio_state.proofs.{Collected.{item_same}, NoReason.{item_turned}}
use Rattle.rio_state.proofs.{Insertion.{all_more, any_in, any_more, filter_more, filter_same, find_more, find_same}, Members.{filter_in, none_at, none_from}}
use Rattle.rio_state.proofs.Stays.{trees_read, trees_under}
use Rattle.rio_state.specs.{Contents.{file_classes, object_in, state_classes}, Trees.{TreesBeside, tree_of, tree_under}}
use Rattle.rio_state.specs.KeyedRecords.{KeyedRecord, begins_at, has_item, is_mixed_name, is_outdated, is_tree_key, is_tree_record, item_of_key, object_records, tree_records}
use Rattle.rio_state.specs.{Reads.{StandsForState, are_distinct, is_named_key, object_under}, OneMore.{HasOneMoreIn}}

-- The record holds an object, under a name and cycle that none of these has; no tree among them has the name.
pub record IsNewObject (classes : List ClassDef) (tops : List KeyedRecord) (r : KeyedRecord) (v : Value) : Type 0 where
  pub named : is_named_key r.head ≡ true
  pub object : is_tree_key r.head ≡ false
  pub read : object_in classes r ≡ Some v
  pub new : list_any (has_item (item_of_key r.head)) tops ≡ false
  pub no_tree : list_any (λ s. bytes_eq s.head.name r.head.name && is_tree_key s.head) tops ≡ false

-- ---- keys apart

distinct_in : (r : KeyedRecord) (front back : List KeyedRecord) → are_distinct (front ++ back) ≡ true → list_any (has_item (item_of_key r.head)) (front ++ back) ≡ false
    → are_distinct (front ++ r ∷ back) ≡ true
distinct_in r [] back d new = and_from _ _ (ap not new) d
distinct_in r (s ∷ front) back d new =
    let parts = and_parts (not (list_any (has_item (item_of_key s.head)) (front ++ back))) (are_distinct (front ++ back)) d in
    let none = or_parts (has_item (item_of_key r.head) s) (list_any (has_item (item_of_key r.head)) (front ++ back)) new in
    let other : has_item (item_of_key s.head) r ≡ false = item_turned s r ∙ none.0 in
    and_from _ _ (ap not (any_in (has_item (item_of_key s.head)) r front back other) ∙ parts.0) (distinct_in r front back parts.1 none.1)

pub distinct_more : (r : KeyedRecord) (old new : List KeyedRecord) → HasOneMoreIn old new r → are_distinct old ≡ true → list_any (has_item (item_of_key r.head)) old ≡ false → are_distinct new ≡ true
distinct_more r old new h d none =
    ap are_distinct h.after
    ∙ distinct_in r h.front h.back (ap are_distinct (sym h.before) ∙ d) (ap (list_any (has_item (item_of_key r.head))) (sym h.before) ∙ none)

all_weaker : (p q : KeyedRecord → Bool) → ((s : KeyedRecord) → p s ≡ true → q s ≡ true) → (rs : List KeyedRecord) → list_all p rs ≡ true → list_all q rs ≡ true
all_weaker p q weaker [] all = refl
all_weaker p q weaker (s ∷ rs) all = let parts = and_parts (p s) (list_all p rs) all in and_from _ _ (weaker s parts.0) (all_weaker p q weaker rs parts.1)

-- ---- one object more

module _ (tops new : List KeyedRecord) (r : KeyedRecord) (h : HasOneMoreIn tops new r) (object : is_tree_key r.head ≡ false) where
  outdated_same : (s : KeyedRecord) → is_outdated new s ≡ is_outdated tops s
  outdated_same s =
      any_more (λ t. is_tree_key t.head && bytes_eq t.head.name s.head.name && nat_lt s.head.cycle t.head.cycle) r tops new h
      (and_left _ _ (and_left (is_tree_key r.head) (bytes_eq r.head.name s.head.name) object))

  record_same : (s : KeyedRecord) → is_tree_record new s ≡ is_tree_record tops s
  record_same s = ap (λ b. is_tree_key s.head && not b) (outdated_same s)

  -- trees are those of before
  pub trees_same : tree_records new ≡ tree_records tops
  trees_same =
      filter_agree (is_tree_record new) (is_tree_record tops) record_same new
      ∙ filter_same (is_tree_record tops) r tops new h (and_left (is_tree_key r.head) (not (is_outdated tops r)) object)

  -- and the object is one more of the objects
  pub objects_more : HasOneMoreIn (object_records tops) (object_records new) r
  objects_more = filter_more (λ s. not (is_tree_key s.head)) r tops new h (ap not object)

  -- ---- names

  abbrev is_tree_named : List ℕ → KeyedRecord → Bool
  is_tree_named name s = bytes_eq s.head.name name && is_tree_key s.head

  abbrev is_object_named : List ℕ → KeyedRecord → Bool
  is_object_named name s = bytes_eq s.head.name name && not (is_tree_key s.head)

  trees_named : (name : List ℕ) → list_any (is_tree_named name) new ≡ list_any (is_tree_named name) tops
  trees_named name = any_more (is_tree_named name) r tops new h (and_right (bytes_eq r.head.name name) (is_tree_key r.head) object)

  module _ (no_tree : list_any (is_tree_named r.head.name) tops ≡ false) where
    own_apart : is_mixed_name new r.head.name ≡ false
    own_apart = and_left _ _ (trees_named r.head.name ∙ no_tree)

    mixed_same : (name : List ℕ) → is_mixed_name tops name ≡ false → is_mixed_name new name ≡ false
    mixed_same name e = by (bytes_eq r.head.name name) refl
      where
        by : (b : Bool) → bytes_eq r.head.name name ≡ b → is_mixed_name new name ≡ false
        by true is = subst (λ (n : List ℕ). is_mixed_name new n ≡ false) ((bytes_eq-Decides r.head.name name).0 is) own_apart
        by false is =
            let objects : list_any (is_object_named name) new ≡ list_any (is_object_named name) tops = any_more (is_object_named name) r tops new h (and_left _ (not (is_tree_key r.head)) is) in
            let trees = trees_named name in
            (λ i. trees i && objects i) ∙ e

    pub names_apart : list_all (λ s. not (is_mixed_name tops s.head.name)) tops ≡ true → list_all (λ s. not (is_mixed_name new s.head.name)) new ≡ true
    names_apart all =
        let others = all_weaker (λ s. not (is_mixed_name tops s.head.name)) (λ s. not (is_mixed_name new s.head.name)) (λ s e. ap not (mixed_same s.head.name (not-true _ e))) tops all in
        all_more (λ s. not (is_mixed_name new s.head.name)) r tops new h (ap not own_apart) others

-- ---- objects

pub any_filter : (p q : KeyedRecord → Bool) (rs : List KeyedRecord) → list_any p rs ≡ false → list_any p (filter q rs) ≡ false
any_filter p q rs none = none_from p (filter q rs) (λ s i e. none_at p s rs none (filter_in q s rs i).0 e)

objects_hold : (classes : List ClassDef) (m : State) (tops new : List KeyedRecord) (r : KeyedRecord) (v : Value) → HasOneMoreIn tops new r → IsNewObject classes tops r v
    → ((item : NameAndCycle) → get m.objects item ≡ object_under classes tops item)
    → (item : NameAndCycle) → get (insert m.objects (item_of_key r.head) v) item ≡ object_under classes new item
objects_hold classes m tops new r v h o all item =
    get-insert items_total m.objects (item_of_key r.head) v item
    ∙ ap (λ b. cond b (Some v) (get m.objects item)) (item_same item r)
    ∙ by (has_item item r) refl
  where
    more : HasOneMoreIn (object_records tops) (object_records new) r
    more = objects_more tops new r h o.object

    by : (b : Bool) → has_item item r ≡ b → cond b (Some v) (get m.objects item) ≡ object_under classes new item
    by true is =
        let same = tells_apart items_tie item (item_of_key r.head) (item_same item r ∙ is) in
        let none : list_any (has_item item) tops ≡ false = ap (λ (x : NameAndCycle). list_any (has_item x) tops) same ∙ o.new in
        let there = find_more (has_item item) r (object_records tops) (object_records new) more is (any_filter (has_item item) (λ s. not (is_tree_key s.head)) tops none) in
        sym (ap (option_and_then (object_in classes)) there ∙ o.read)
    by false is = all item ∙ sym (ap (option_and_then (object_in classes)) (find_same (has_item item) r (object_records tops) (object_records new) more is))

-- ---- the state

-- with the record of a new object the records stand for the state with the object
pub object_stands : (old records : List KeyedRecord) (r : KeyedRecord) (info : Option KeyedRecord) (tops new : List KeyedRecord) (m : State) (v : Value) → HasOneMoreIn old records r → begins_at old r.head.seek ≡ false → HasOneMoreIn tops new r
    → IsNewObject (state_classes info) tops r v → StandsForState old info tops m → StandsForState records info new (record m { objects = insert m.objects (item_of_key r.head) v })
object_stands old records r info tops new m v among free h o s =
    let classes = state_classes info in
    let same = trees_same tops new r h o.object in
    let headers = tree_records tops in
    let beside_headers : List KeyedRecord → TreesBeside = λ ts. record { classes = file_classes info; records = records; headers = ts } in
    let read = trees_read (file_classes info) headers old records r among free headers s.tree_readable in
    let under = trees_under (file_classes info) headers old records r among free in
    record {
      listed = s.listed;
      classes = s.classes;
      named = all_more (λ t. is_named_key t.head) r tops new h o.named s.named;
      distinct = distinct_more r tops new h s.distinct o.new;
      apart = names_apart tops new r h o.object o.no_tree s.apart;
      readable = all_more (λ t. is_some (object_in classes t)) r (object_records tops) (object_records new) (objects_more tops new r h o.object) (ap is_some o.read) s.readable;
      objects = objects_hold classes m tops new r v h o s.objects;
      tree_readable = subst (λ (ts : List KeyedRecord). list_all (λ t. is_some (tree_of (beside_headers ts) t)) ts ≡ true) (sym same) read;
      trees = λ name. s.trees name ∙ under (λ t. bytes_eq t.head.name name) headers s.tree_readable
          ∙ ap (λ (ts : List KeyedRecord). tree_under (beside_headers ts) name) (sym same);
    }

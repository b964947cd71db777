-- The keys of a file stand for the objects of the state that its records stand for.
use Rattle.std.proofs.Common.{◌≡◌, ◌⊎◌, inl, inr, ℕ, ◌∙◌, List, [], ◌∷◌, map, Bool, true, false, cond, not, ◌&&◌, ◌==◌, Option, Some, None, refl, sym, ap, subst}
use Rattle.std.proofs.{lemmas.Bool.{and_from, and_parts, not-true}, lemmas.Slice.Eq.{bytes_eq-Decides}, lemmas.Map.Views.{tells_apart}, lemmas.Option.{same_Some}}
use Rattle.std.specs.Prelude.{T, is_some, nat_lt, unwrap_or}
use Rattle.std.specs.FinMap.{contains_key-keys, empty, entries, entries-from_sorted, entries_sorted, find as find_key, from_sorted, get, get-empty, get-entries, get-from_sorted, is_sorted, keys, same_map}
use Rattle.std.specs.{List.{filter}, Option.{option_map}, Ordering.{eq_by_cmp, is_lt, nat_cmp, ordering_then}}
use Rattle.std.specs.{Cmp.{eq_by_cmp_equiv, Lexicographic.{slice_cmp}}, declared.cmp.Ordering.{Ordering, TheVariants.{Less, Equal, Greater}}}
use Rattle.rio_num.specs.Word.{name_order}
use Rattle.rio_num.proofs.Cases.{is_true, some_of}
use Rattle.rio_format.specs.declared.value.Value.{Value}
use Rattle.rio_key.specs.declared.head.KeyHead.{KeyHead}
use Rattle.rio_dir.specs.Table.{AreBehind, AreOrdered, comes_before, first_by}
use Rattle.rio_machine.proofs.OrderLaws.{items_tie, items_total}
use Rattle.rio_machine.specs.State.{NameAndCycle, State, item_order}
use Rattle.rio_state.proofs.{Collected.{item_same}, KeyRecords.{ObjectOf, TreeOf, holder, key_record, object_of, record_key}}
use Rattle.rio_state.proofs.Members.{In, any_from, filter_in, in_contained, in_filter, in_map, map_in}
use Rattle.rio_state.specs.{DirectoryKeys.{AreKeysOf}}
use Rattle.rio_state.specs.{KeyedRecords.{KeyedRecord, info_key, is_tree_key, is_tree_record, item_of_key, top_keys}, Reads.{AreRecordsOf}}
use Rattle.rio_step.specs.{ItemKeys.{told_by_key}, Refusing.{object_class}, Step.{Listed, listed_object, object_listed}}
use Rattle.rio_effect.specs.Laws.{KeysNameObjects, KeysStandForState, ObjectKeysStand, object_keys}
use Rattle.rio_effect.proofs.{FreeItems.{is_tree_named, no_tree_named}, ReadClasses.{object_is_read}}

abbrev pub Told : Type 0
Told = NameAndCycle × Listed

-- ---- one order

true_is : (b : Bool) → b ≡ true → T b
true_is b e = subst T (sym e) tt

first_is : (r b : Ordering) (c : Bool) → is_lt b ≡ c → is_lt (ordering_then r b) ≡ first_by r c
first_is Less b c e = refl
first_is Equal b c e = e
first_is Greater b c e = refl

lower_is : (m n : ℕ) → is_lt (nat_cmp m n) ≡ nat_lt m n
lower_is m n = by (nat_lt m n) (m == n)
  where
    by : (b c : Bool) → is_lt (cond b Less (cond c Equal Greater)) ≡ b
    by true c = refl
    by false true = refl
    by false false = refl

-- the order of items is that of names and cycles
order_same : (name : List ℕ) (cycle : ℕ) (other : List ℕ) (n : ℕ) → is_lt (item_order (name, cycle) (other, n)) ≡ comes_before name cycle other n
order_same name cycle other n = first_is (slice_cmp nat_cmp name other) (nat_cmp n cycle) (nat_lt n cycle) (lower_is n cycle)

-- each comes behind an item
abbrev all_behind : {X : Type 0} → NameAndCycle → List (NameAndCycle × X) → Bool
all_behind item [] = true
all_behind item (e ∷ es) = is_lt (item_order item e.0) && all_behind item es

heads_behind : (name : List ℕ) (cycle : ℕ) (heads : List KeyHead) → AreBehind name cycle heads → all_behind (name, cycle) (map told_by_key heads) ≡ true
heads_behind name cycle [] are = refl
heads_behind name cycle (h ∷ hs) are = and_from _ _ (order_same name cycle h.name h.cycle ∙ are.0) (heads_behind name cycle hs are.1)

heads_sorted : (heads : List KeyHead) → AreOrdered heads → is_sorted item_order (map told_by_key heads) ≡ true
heads_sorted [] are = refl
heads_sorted (h ∷ hs) are = and_from _ _ (heads_behind h.name h.cycle hs are.0) (heads_sorted hs are.1)

listed_behind : (item : NameAndCycle) (es : List (NameAndCycle × Value)) → all_behind item (map listed_object es) ≡ all_behind item es
listed_behind item [] = refl
listed_behind item (e ∷ es) = ap (λ b. is_lt (item_order item e.0) && b) (listed_behind item es)

listed_sorted : (es : List (NameAndCycle × Value)) → is_sorted item_order (map listed_object es) ≡ is_sorted item_order es
listed_sorted [] = refl
listed_sorted (e ∷ es) =
    let here = listed_behind e.0 es in
    let rest = listed_sorted es in
    λ i. here i && rest i

-- ---- what is told of an item

abbrev told_of : Value → Listed
told_of v = object_listed (unwrap_or (object_class v) [])

listed_found : (item : NameAndCycle) (es : List (NameAndCycle × Value)) → find_key item_order item (map listed_object es) ≡ option_map told_of (find_key item_order item es)
listed_found item [] = refl
listed_found item (e ∷ es) = by (eq_by_cmp item_order item e.0) (listed_found item es)
  where
    by : (b : Bool) → find_key item_order item (map listed_object es) ≡ option_map told_of (find_key item_order item es)
        → cond b (Some (told_of e.1)) (find_key item_order item (map listed_object es)) ≡ option_map told_of (cond b (Some e.1) (find_key item_order item es))
    by true rest = refl
    by false rest = rest

-- a head has the item
abbrev has_key : NameAndCycle → KeyHead → Bool
has_key item h = eq_by_cmp item_order item (h.name, h.cycle)

-- the first head of the item, or none
data FoundKey (item : NameAndCycle) (heads : List KeyHead) : Type 0 where
  key_found : (h : KeyHead) → In h heads → has_key item h ≡ true → find_key item_order item (map told_by_key heads) ≡ Some (object_listed h.class) → FoundKey item heads
  no_key : ((h : KeyHead) → In h heads → has_key item h ≡ true → ⊥) → find_key item_order item (map told_by_key heads) ≡ None → FoundKey item heads

found_in : (item : NameAndCycle) (heads : List KeyHead) → FoundKey item heads
found_in item [] = no_key (λ h i e. i) refl
found_in item (h ∷ hs) = by (has_key item h) refl (found_in item hs)
  where
    rest_same : has_key item h ≡ false → find_key item_order item (map told_by_key (h ∷ hs)) ≡ find_key item_order item (map told_by_key hs)
    rest_same is = ap (λ b. cond b (Some (object_listed h.class)) (find_key item_order item (map told_by_key hs))) is

    none_here : has_key item h ≡ false → ((k : KeyHead) → In k hs → has_key item k ≡ true → ⊥) → (k : KeyHead) → In k (h ∷ hs) → has_key item k ≡ true → ⊥
    none_here is none k (inl same) e = let there = ap (has_key item) same ∙ e in absurd cc
    none_here is none k (inr i) e = none k i e

    by : (b : Bool) → has_key item h ≡ b → FoundKey item hs → FoundKey item (h ∷ hs)
    by true is rest = key_found h (inl refl) is (ap (λ b. cond b (Some (object_listed h.class)) (find_key item_order item (map told_by_key hs))) is)
    by false is (key_found k i e there) = key_found k (inr i) e (rest_same is ∙ there)
    by false is (no_key none there) = no_key (none_here is none) (rest_same is ∙ there)

-- ---- the objects

-- some of the keys stand in their order
behind_kept : (p : KeyHead → Bool) (name : List ℕ) (cycle : ℕ) (heads : List KeyHead) → AreBehind name cycle heads → AreBehind name cycle (filter p heads)
behind_kept p name cycle [] are = tt
behind_kept p name cycle (h ∷ hs) are = by (p h) (behind_kept p name cycle hs are.1)
  where
    by : (b : Bool) → AreBehind name cycle (filter p hs) → AreBehind name cycle (cond b (h ∷ filter p hs) (filter p hs))
    by true rest = (are.0, rest)
    by false rest = rest

order_kept : (p : KeyHead → Bool) (heads : List KeyHead) → AreOrdered heads → AreOrdered (filter p heads)
order_kept p [] are = tt
order_kept p (h ∷ hs) are = by (p h) (order_kept p hs are.1)
  where
    by : (b : Bool) → AreOrdered (filter p hs) → AreOrdered (cond b (h ∷ filter p hs) (filter p hs))
    by true rest = (behind_kept p h.name h.cycle hs are.0, rest)
    by false rest = rest

module _ (records : List KeyedRecord) (heads : List KeyHead) (m : State) (are : AreKeysOf records heads) (is : AreRecordsOf records m) where
  abbrev objects : List KeyHead
  objects = object_keys heads

  -- a key that has the item is that of the item's object
  key_told : (item : NameAndCycle) (h : KeyHead) → In h objects → has_key item h ≡ true → (v : Value) × (get m.objects item ≡ Some v) × (told_of v ≡ object_listed h.class)
  key_told item h i e = by (key_record records m is heads are h (filter_in (λ k. not (is_tree_key k)) h heads i).0)
    where
      by : ObjectOf records m is h ⊎ TreeOf records m is h → (v : Value) × (get m.objects item ≡ Some v) × (told_of v ≡ object_listed h.class)
      by (inl o) =
          let x = object_of records m is o.r o.among in
          let same = tells_apart items_tie item (h.name, h.cycle) e in
          let key : item_of_key o.r.head ≡ item = ap (λ (k : KeyHead). item_of_key k) o.head_is ∙ sym same in
          let read = object_is_read m.classes o.r x.v x.read in (
            x.v,
            ap (get m.objects) (sym key) ∙ x.object,
            ap (λ (c : Option (List ℕ)). object_listed (unwrap_or c [])) read.class ∙ ap (λ (k : KeyHead). object_listed k.class) o.head_is,
          )
      by (inr t) =
          let tree = (and_parts (is_tree_key t.r.head) _ (filter_in (is_tree_record (top_keys records)) t.r (top_keys records) t.among).1).0 in
          let none = not-true _ (filter_in (λ k. not (is_tree_key k)) h heads i).1 in
          let f : false ≡ true = sym none ∙ ap is_tree_key (sym t.head_is) ∙ tree in absurd cc

  -- and each object has one
  object_key : (item : NameAndCycle) (v : Value) → get m.objects item ≡ Some v → (h : KeyHead) × In h objects × (has_key item h ≡ true)
  object_key item v e =
      let x = holder records m is item v e in
      let object = (filter_in (λ t. not (is_tree_key t.head)) x.r (top_keys records) x.among).1 in
      (x.r.head, in_filter (λ k. not (is_tree_key k)) x.r.head heads (record_key records m is heads are x.r x.among) object, item_same item x.r ∙ x.has)

  told_same : (item : NameAndCycle) → find_key item_order item (map told_by_key objects) ≡ option_map told_of (get m.objects item)
  told_same item = by (found_in item objects) (get m.objects item) refl
    where
      by : FoundKey item objects → (o : Option Value) → get m.objects item ≡ o → find_key item_order item (map told_by_key objects) ≡ option_map told_of o
      by (key_found h i e there) (Some v) held =
          let x = key_told item h i e in
          let same = same_Some x.0 v (sym x.1 ∙ held) in
          there ∙ ap (λ (l : Listed). let o : Option Listed = Some l in o) (sym x.2 ∙ ap told_of same)
      by (key_found h i e there) None held = let x = key_told item h i e in let f = sym x.1 ∙ held in absurd cc
      by (no_key none there) (Some v) held = let x = object_key item v held in absurd (none x.0 x.1 x.2)
      by (no_key none there) None held = there

  abbrev by_keys : List Told
  by_keys = map told_by_key objects

  abbrev by_objects : List Told
  by_objects = map listed_object (entries m.objects)

  pub lists_same : by_keys ≡ by_objects
  lists_same =
      let one = true_is _ (heads_sorted objects (order_kept (λ k. not (is_tree_key k)) heads are.ordered)) in
      let two = true_is _ (listed_sorted (entries m.objects) ∙ is_true _ (entries_sorted m.objects)) in
      let same = same_map items_total items_tie (from_sorted {R = item_order} by_keys) (from_sorted {R = item_order} by_objects) (λ item.
      get-from_sorted item_order by_keys item one
      ∙ told_same item
      ∙ ap (option_map told_of) (get-entries m.objects item)
      ∙ sym (listed_found item (entries m.objects))
      ∙ sym (get-from_sorted item_order by_objects item two)) in
      sym (entries-from_sorted item_order by_keys one) ∙ ap entries same ∙ entries-from_sorted item_order by_objects two

pub object_keys_stand : ObjectKeysStand
object_keys_stand records heads m are is = lists_same records heads m are is

-- without trees no key is a tree's
no_tree_keys : (records : List KeyedRecord) (heads : List KeyHead) (m : State) → AreKeysOf records heads → AreRecordsOf records m → m.trees ≡ empty → (h : KeyHead) → In h heads → is_tree_key h ≡ false
no_tree_keys records heads m are is none h i = by (is_tree_key h) refl (key_record records m is heads are h i)
  where
    by : (b : Bool) → is_tree_key h ≡ b → ObjectOf records m is h ⊎ TreeOf records m is h → b ≡ false
    by false e x = refl
    by true e (inl o) =
        let object = not-true _ (filter_in (λ t. not (is_tree_key t.head)) o.r (top_keys records) o.among).1 in
        let f : false ≡ true = sym object ∙ ap is_tree_key o.head_is ∙ e in absurd cc
    by true e (inr t) =
        let named = any_from (λ k. is_tree_named t.r.head.name k) t.r (top_keys records) (filter_in (is_tree_record (top_keys records)) t.r (top_keys records) t.among).0
        (and_from _ _ ((bytes_eq-Decides t.r.head.name t.r.head.name).1 refl) (ap is_tree_key t.head_is ∙ e)) in
        let free = no_tree_named records (info_key records) (top_keys records) m is.stand t.r.head.name (ap (λ ts. is_some (get ts t.r.head.name)) none ∙ ap is_some (get-empty name_order t.r.head.name)) in
        let f : false ≡ true = sym free ∙ named in absurd cc

all_kept : (heads : List KeyHead) → ((h : KeyHead) → In h heads → is_tree_key h ≡ false) → object_keys heads ≡ heads
all_kept [] none = refl
all_kept (h ∷ hs) none =
    let rest = all_kept hs (λ k i. none k (inr i)) in
    let one : not (is_tree_key h) ≡ true = ap not (none h (inl refl)) in
    ap (λ b. cond b (h ∷ object_keys hs) (object_keys hs)) one ∙ ap (λ (ks : List KeyHead). h ∷ ks) rest

-- without trees all keys are those of objects
pub keys_stand_for_state : KeysStandForState
keys_stand_for_state records heads m are is none = record {
  objects = ap (map told_by_key) (sym (all_kept heads (no_tree_keys records heads m are is none))) ∙ object_keys_stand records heads m are is;
  trees = none;
}

-- ---- the object of a key

pub keys_name_objects : KeysNameObjects
keys_name_objects heads m head are c =
    let told = in_map told_by_key head heads (in_contained head heads c) in
    let listed = subst (λ (ts : List Told). In (told_by_key head) ts) are.objects told in
    let from = map_in listed_object (told_by_key head) (entries m.objects) listed in
    let key = in_map (λ (e : NameAndCycle × Value). e.0) from.0 (entries m.objects) from.1 in
    let same : from.0.0 ≡ (head.name, head.cycle) = ap (λ (t : Told). t.0) from.2 in
    let there = any_from (eq_by_cmp item_order (head.name, head.cycle)) from.0.0 (keys m.objects) key (ap (eq_by_cmp item_order (head.name, head.cycle)) same ∙ (eq_by_cmp_equiv items_total).refl (head.name, head.cycle)) in
    some_of (get m.objects (head.name, head.cycle)) (contains_key-keys m.objects (head.name, head.cycle) ∙ there)

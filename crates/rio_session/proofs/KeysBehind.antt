-- The keys stand for the state behind a put.
use Rattle.std.proofs.Common.{◌≡◌, ℕ, List, [], ◌∷◌, map, Bool, true, false, cond, not, ◌==◌, Option, Some, None, refl, sym, subst, ap, ◌∙◌}
use Rattle.std.proofs.{lemmas.Bool.{and_from, eq-eqb}, lemmas.Cmp.{nat_list_eq_equiv}}
use Rattle.std.specs.{Prelude.{if◌then◌else◌, is_some}, FinMap.{entries, entries-insert, Entries.{by_order, put}}, List.{filter, find}, Ordering.{is_lt, ordering_reverse}}
use Rattle.std.specs.{Str.{bytes_eq}, declared.cmp.Ordering.{Ordering, TheVariants.{Less, Equal, Greater}}}
use Rattle.rio_num.specs.Word.{name_order}
use Rattle.rio_key.specs.declared.head.KeyHead.{KeyHead}
use Rattle.rio_format.specs.declared.value.Value.{Value}
use Rattle.rio_dir.specs.Table.{AreBehind, AreOrdered, is_at_cycle, is_before, with_head}
use Rattle.rio_dir.proofs.{TableLists.{behind_too, ordered_with}, TableOrder.{at_is, before_itself, before_trans, else_behind}}
use Rattle.rio_tree_table.specs.{Table.{tree_of}, declared.table.KeptTree.{KeptTree}}
use Rattle.rio_machine.proofs.OrderLaws.{items_tie, items_total}
use Rattle.rio_machine.specs.{State.{NameAndCycle, State, item_order, next_cycle}, declared.command.Command.TheVariants.{Put}}
use Rattle.rio_state.proofs.{Insertion.{filter_same}, KeysFollow.{head_more}}
use Rattle.rio_judge.proofs.{Divided.{find_kept, ordered_kept}, KeysOfState.{first_is, item_of}}
use Rattle.rio_step.specs.KeptItems as items
use Rattle.rio_step.specs.{ItemKeys.{told_by_key}, KeptItems.{AreItemsOfState, is_object_key, is_tree_key}, Refusing.{put_value}, Step.{listed_object, state_behind}}
use Rattle.rio_effect.proofs.KeysOfState.{Told}

none_parts : (b : Bool) (x : KeyHead) (o : Option KeyHead) → cond b (Some x) o ≡ None → (b ≡ false) × (o ≡ None)
none_parts true x o e = absurd cc
none_parts false x o e = (refl, e)

-- a key with the same name and cycle is found
pub same_found : (h k : KeyHead) → item_of k ≡ item_of h → is_at_cycle h.name h.cycle k ≡ true
same_found h k same =
    and_from (bytes_eq k.name h.name) (k.cycle == h.cycle)
    (ap (λ (x : List ℕ). bytes_eq x h.name) (ap (λ (x : NameAndCycle). x.0) same) ∙ nat_list_eq_equiv.refl h.name)
    (eq-eqb k.cycle h.cycle (ap (λ (x : NameAndCycle). x.1) same))

-- the keys with one more tell what is listed of the objects with one more
module _ (h : KeyHead) (item : NameAndCycle) (v : Value) (told : told_by_key h ≡ listed_object (item, v)) where
  item_is : item ≡ item_of h
  item_is = ap (λ (x : Told). x.0) (sym told)

  module _ (k : KeyHead) (ks : List KeyHead) (e : NameAndCycle × Value) (es : List (NameAndCycle × Value)) (first : told_by_key k ≡ listed_object e)
      (rest : map told_by_key ks ≡ map listed_object es) (apart : is_at_cycle h.name h.cycle k ≡ false)
      (later : map told_by_key (with_head h ks) ≡ map listed_object (put item_order item v es)) where
    abbrev keys_by : Bool → List Told
    keys_by b = map told_by_key (if b then k ∷ with_head h ks else h ∷ k ∷ ks)

    abbrev objects_by : Ordering → List Told
    objects_by o = map listed_object (by_order o ((item, v) ∷ e ∷ es) ((e.0, v) ∷ es) (e ∷ put item_order item v es))

    key_is : e.0 ≡ item_of k
    key_is = ap (λ (x : Told). x.0) (sym first)

    order_is : item_order item e.0 ≡ ordering_reverse (item_order (item_of k) (item_of h))
    order_is = ap (λ (x : NameAndCycle × NameAndCycle). item_order x.0 x.1) (λ i. (item_is i, key_is i)) ∙ items_total.antisymm (item_of h) (item_of k)

    before_is : is_before h.name h.cycle k ≡ is_lt (item_order (item_of k) (item_of h))
    before_is = sym (first_is (name_order k.name h.name) h.cycle k.cycle)

    with_one : keys_by (is_before h.name h.cycle k) ≡ objects_by (item_order item e.0)
    with_one = by (item_order (item_of k) (item_of h)) refl
      where
        by : (o : Ordering) → item_order (item_of k) (item_of h) ≡ o → keys_by (is_before h.name h.cycle k) ≡ objects_by (item_order item e.0)
        by Less is =
            let b : is_before h.name h.cycle k ≡ true = before_is ∙ ap is_lt is in
            let o : item_order item e.0 ≡ Greater = order_is ∙ ap ordering_reverse is in
            let one : keys_by true ≡ objects_by Greater = λ i. first i ∷ later i in
            ap keys_by b ∙ one ∙ sym (ap objects_by o)
        by Equal is =
            let same : is_at_cycle h.name h.cycle k ≡ true = same_found h k (items_tie (item_of k) (item_of h) is) in
            let never : true ≡ false = sym same ∙ apart in
            absurd cc
        by Greater is =
            let b : is_before h.name h.cycle k ≡ false = before_is ∙ ap is_lt is in
            let o : item_order item e.0 ≡ Less = order_is ∙ ap ordering_reverse is in
            let one : keys_by false ≡ objects_by Less = λ i. told i ∷ first i ∷ rest i in
            ap keys_by b ∙ one ∙ sym (ap objects_by o)

pub lists_with : (h : KeyHead) (item : NameAndCycle) (v : Value) (heads : List KeyHead) (es : List (NameAndCycle × Value)) → told_by_key h ≡ listed_object (item, v)
    → map told_by_key heads ≡ map listed_object es → find (is_at_cycle h.name h.cycle) heads ≡ None → map told_by_key (with_head h heads) ≡ map listed_object (put item_order item v es)
lists_with h item v [] [] told same none = λ i. told i ∷ []
lists_with h item v [] (e ∷ es) told same none = absurd cc
lists_with h item v (k ∷ ks) [] told same none = absurd cc
lists_with h item v (k ∷ ks) (e ∷ es) told same none =
    let first : told_by_key k ≡ listed_object e = cc in
    let rest : map told_by_key ks ≡ map listed_object es = cc in
    let parts = none_parts (is_at_cycle h.name h.cycle k) k (find (is_at_cycle h.name h.cycle) ks) none in
    with_one h item v told k ks e es first rest parts.0 (lists_with h item v ks es told rest parts.1)

-- ---- keys that a test keeps

-- a key that comes before all of some others is the first with them
first_with : (h : KeyHead) (ks : List KeyHead) → AreBehind h.name h.cycle ks → with_head h ks ≡ h ∷ ks
first_with h [] are = refl
first_with h (k ∷ ks) are = by (is_before h.name h.cycle k) refl
  where
    by : (b : Bool) → is_before h.name h.cycle k ≡ b → (if b then k ∷ with_head h ks else h ∷ k ∷ ks) ≡ h ∷ k ∷ ks
    by true is =
        let again = before_trans h.name h.cycle k.name k.cycle h.name h.cycle are.0 is in
        let never : true ≡ false = sym again ∙ before_itself h.name h.cycle in
        absurd cc
    by false is = refl

module _ (keep : KeyHead → Bool) (h : KeyHead) (kept : keep h ≡ true) where
  -- among the keys that are kept it stands where it stands among all
  pub filter_with : (heads : List KeyHead) → AreOrdered heads → find (is_at_cycle h.name h.cycle) heads ≡ None → filter keep (with_head h heads) ≡ with_head h (filter keep heads)
  filter_with [] are none = ap (λ (b : Bool). cond b (h ∷ []) []) kept
  filter_with (k ∷ ks) are none = by (is_before h.name h.cycle k) refl (filter_with ks are.1 parts.1)
    where
      parts : (is_at_cycle h.name h.cycle k ≡ false) × (find (is_at_cycle h.name h.cycle) ks ≡ None)
      parts = none_parts (is_at_cycle h.name h.cycle k) k (find (is_at_cycle h.name h.cycle) ks) none

      by : (b : Bool) → is_before h.name h.cycle k ≡ b → filter keep (with_head h ks) ≡ with_head h (filter keep ks)
          → filter keep (if b then k ∷ with_head h ks else h ∷ k ∷ ks) ≡ with_head h (filter keep (k ∷ ks))
      by true is later = at (keep k)
        where
          at : (c : Bool) → cond c (k ∷ filter keep (with_head h ks)) (filter keep (with_head h ks)) ≡ with_head h (cond c (k ∷ filter keep ks) (filter keep ks))
          at true = ap (λ (l : List KeyHead). k ∷ l) later ∙ sym (ap (λ (b : Bool). if b then k ∷ with_head h (filter keep ks) else h ∷ k ∷ filter keep ks) is)
          at false = later
      by false is later =
          let first = else_behind h.name h.cycle k is parts.0 in
          let all : AreOrdered (h ∷ k ∷ ks) = ((first, behind_too h.name h.cycle k ks first are.0), are) in
          let some = subst (λ (b : Bool). AreOrdered (cond b (h ∷ filter keep (k ∷ ks)) (filter keep (k ∷ ks)))) kept (ordered_kept keep (h ∷ k ∷ ks) all) in
          ap (λ (b : Bool). cond b (h ∷ filter keep (k ∷ ks)) (filter keep (k ∷ ks))) kept ∙ sym (first_with h (filter keep (k ∷ ks)) some.0)

-- ---- behind a put

-- a key of a name is one of an object or of a tree as the name is
pub same_kind : (trees : List KeptTree) (name : List ℕ) (cycle : ℕ) (k : KeyHead) → is_at_cycle name cycle k ≡ true → is_tree_key trees k ≡ is_some (tree_of name trees)
same_kind trees name cycle k at = ap (λ (n : List ℕ). is_some (tree_of n trees)) (at_is name cycle k at).0

pub keys_behind : (heads : List KeyHead) (trees : List KeptTree) (m : State) (name : List ℕ) (v : Value) (h : KeyHead) → AreItemsOfState heads trees m → tree_of h.name trees ≡ None
    → told_by_key h ≡ listed_object ((name, next_cycle m name), put_value m v) → find (is_at_cycle h.name h.cycle) heads ≡ None → AreItemsOfState (with_head h heads) trees (state_behind m (Put name v))
keys_behind heads trees m name v h are free told none =
    let other : is_tree_key trees h ≡ false = ap is_some free in
    let kept = λ (k : KeyHead) (at : is_at_cycle h.name h.cycle k ≡ true). ap not (same_kind trees h.name h.cycle k at ∙ other) in
    let objects = filter (is_object_key trees) heads in
    let new : find (is_at_cycle h.name h.cycle) objects ≡ None = find_kept (is_object_key trees) (is_at_cycle h.name h.cycle) kept heads ∙ none in
    record {
      ordered = ordered_with h heads are.ordered none;
      objects =
          ap (map told_by_key) (filter_with (is_object_key trees) h (ap not other) heads are.ordered none)
          ∙ lists_with h (name, next_cycle m name) (put_value m v) objects (entries m.objects) told are.objects new
          ∙ ap (map listed_object) (sym (entries-insert items_total m.objects (name, next_cycle m name) (put_value m v)));
      cycles = ap (map items.item_of_key) (filter_same (is_tree_key trees) h heads (with_head h heads) (head_more h heads) other) ∙ are.cycles;
      kept = are.kept;
    }

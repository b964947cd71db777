-- A command leaves a state that a file can hold.
use Rattle.std.proofs.Common.{◌≡◌, ℕ, ◌+◌, List, [], ◌∷◌, ◌++◌, drop, length, Bool, true, false, cond, not, ◌&&◌, ◌||◌, Option, Some, None, refl, sym, ap, subst, ◌∙◌, append_assoc, arith}
use Rattle.std.proofs.{lemmas.Bool.{and_from, and_parts, leb-false, ltb-false, not-false, or_parts}, lemmas.List.{append-nil}, lemmas.Map.Views.{tells_apart}}
use Rattle.std.proofs.lemmas.Option.{same_Some}
use Rattle.std.specs.{Prelude.{is_some, nat_le, nat_lt, unwrap_or}, FinMap.{get, get-empty, get-insert, get-remove, insert, remove}, List.{list_all, list_any}}
use Rattle.std.specs.{Option.{option_map_or}, Ordering.{eq_by_cmp}, Str.{bytes_eq}}
use Rattle.rio_num.specs.Word.{is_item_text, name_order}
use Rattle.rio_leaf.specs.{declared.branch.BranchDef.{BranchDef}, declared.branch.Shape.{Shape, TheVariants.{Leaves, Class as Objects}}}
use Rattle.rio_leaf.specs.Stated.{are_stated_branches}
use Rattle.rio_format.specs.{declared.class.ClassDef.{ClassDef}, declared.value.Value.{Value}, ReaderState.{no_words}, Bodies.{Counters}, Fits.{Labels, fits, fitting_of}, Slots.{can_be_put}}
use Rattle.rio_machine.specs.Limits.{data_length, has_long_entry, head_length, is_too_long, zeros_behind, cycle_limit, has_long_list, is_too_deep}
use Rattle.rio_machine.specs.Rows.{Column, column_slot, columns_bytes, columns_fit, columns_of, entries_from, leaf_numbers_after, leaf_numbers_behind, row_fits, shape_columns, stands_in}
use Rattle.rio_machine.specs.declared.command.Command.{Command, TheVariants.{Bad, Class, Put, Batch, Delete, Tree as MakeTree, Fill, Save, Get, Scan, Ls}}
use Rattle.rio_machine.specs.declared.command.PutItem.{PutItem}
use Rattle.rio_machine.specs.declared.refusal.Refusal.{Refusal, TheVariants.{BadName, NoSuchClass, CycleLimit, TooLarge, TooDeep, TooMany}}
use Rattle.rio_machine.specs.State.{NameAndCycle, Row, State, Tree, empty_state, item_order, names_tree, next_cycle}
use Rattle.rio_model.specs.Declaring.{is_declared, declared, shape_lacks_class}
use Rattle.rio_step.proofs.{ApartLaws.{names_stay_apart, none_at, not_refused}, BatchTaken.{batch_taken}, DeclaredLaws.{classes_stay_declared}, FitLaws.{put_more}}
use Rattle.rio_step.proofs.{FitStays.{all_pushed, columns_more, object_more, unrefused_fit, unrefused_row}, WritingLaws.{slot_written, written_same}}
use Rattle.rio_step.specs.{Laws.{AreTaken}, Statable.{is_statable}}
use Rattle.rio_step.specs.Refusing.{FullMark, fill_row, goes_too_deep, has_too_many, is_at_last_cycle, is_list_name, is_too_large, lacks_class, put_value, refusal_of, refusals, object_class, rows_of_tree}
use Rattle.rio_step.specs.Step.{by_refusal, new_tree, state_behind, step, tree_filled, tree_saved, with_object, with_objects, with_tree, without_item}
use Rattle.rio_step.specs.Storable.{IsStorable, IsStoredName, IsStoredObject, IsStoredTree, StaysStorable, is_stored_row}
use Rattle.rio_machine.proofs.OrderLaws.{items_tie, items_total, names_tie, names_total}

-- ---- one class more

module _ (classes : List ClassDef) (class : ClassDef) where
  abbrev more : List ClassDef
  more = classes ++ class ∷ []

  some_labels : (x : Option Labels) → is_some x ≡ true → (l : Labels) × (x ≡ Some l)
  some_labels None e = absurd cc
  some_labels (Some l) e = (l, refl)

  -- the columns at the front are written as they were, and those behind still fit
  columns_same : (cs ds : List Column) (row : List Value) (counters : Counters) → columns_fit classes (cs ++ ds) row counters ≡ true
      → (columns_bytes more cs row counters ≡ columns_bytes classes cs row counters) × (columns_fit classes ds (drop (length cs) row) (leaf_numbers_after cs row counters) ≡ true)
  columns_same [] ds row counters e = (refl, e)
  columns_same (c ∷ cs) ds [] counters e = absurd cc
  columns_same (c ∷ cs) ds (v ∷ vs) counters e =
      let parts = and_parts (stands_in classes (column_slot counters c) v) (columns_fit classes (cs ++ ds) vs (leaf_numbers_behind c v counters)) e in
      let there = some_labels ((fitting_of classes v).fits (column_slot counters c) []) parts.0 in
      let own = slot_written classes class v (column_slot counters c) [] there.0 there.1 in
      let later = columns_same cs ds vs (leaf_numbers_behind c v counters) parts.1 in
      ((λ i. (own i 0 no_words).0 ++ later.0 i), later.1)

  pub entries_same : (bs : List BranchDef) (row : List Value) (counters : Counters) → columns_fit classes (columns_of bs) row counters ≡ true → entries_from more bs row counters ≡ entries_from classes bs row counters
  entries_same [] row counters e = refl
  entries_same (b ∷ bs) row counters e =
      let first = columns_same (shape_columns b.shape) (columns_of bs) row counters e in
      let later = entries_same bs (drop (length (shape_columns b.shape)) row) (leaf_numbers_after (shape_columns b.shape) row counters) first.1 in
      λ i. first.0 i ∷ later i

  put_kept : (own : Option (List ℕ)) → option_map_or (λ c. not (can_be_put classes c)) own false ≡ false → option_map_or (λ c. not (can_be_put more c)) own false ≡ false
  put_kept None e = refl
  put_kept (Some c) e = ap not (put_more classes class c (not-false (can_be_put classes c) e))

  length_same : (own : Option (List ℕ)) (name : List ℕ) (v : Value) → option_map_or (λ c. fits classes c v) own false ≡ true → data_length more (unwrap_or own []) name v ≡ data_length classes (unwrap_or own []) name v
  length_same None name v e = absurd cc
  length_same (Some c) name v e =
      ap (λ bytes. length bytes + zeros_behind (head_length c name + length bytes)) (written_same classes class c v 0 e)

  pub row_same : (branches : List BranchDef) (row : Row) → is_stored_row classes branches row ≡ true → is_stored_row more branches row ≡ true
  row_same branches row e =
      let last = and_parts (row_fits classes branches row && not (has_long_entry classes branches row) && not (list_any is_too_deep row)) (not (list_any has_long_list row)) e in
      let third = and_parts (row_fits classes branches row && not (has_long_entry classes branches row)) (not (list_any is_too_deep row)) last.0 in
      let second = and_parts (row_fits classes branches row) (not (has_long_entry classes branches row)) third.0 in
      let long : has_long_entry more branches row ≡ has_long_entry classes branches row = ap (list_any (λ entry. is_too_long (length entry))) (entries_same branches row [] second.0) in
      and_from _ _ (and_from _ _ (and_from _ _ (columns_more classes class (columns_of branches) row [] second.0) (ap not long ∙ second.1)) third.1) last.1

  pub rows_same : (branches : List BranchDef) (rows : List Row) → list_all (is_stored_row classes branches) rows ≡ true → list_all (is_stored_row more branches) rows ≡ true
  rows_same branches [] e = refl
  rows_same branches (r ∷ rs) e =
      let parts = and_parts (is_stored_row classes branches r) (list_all (is_stored_row classes branches) rs) e in
      and_from _ _ (row_same branches r parts.0) (rows_same branches rs parts.1)

  any_more : (p : ClassDef → Bool) (cs : List ClassDef) → list_any p cs ≡ true → list_any p (cs ++ class ∷ []) ≡ true
  any_more p [] e = absurd cc
  any_more p (c ∷ cs) e = by (p c) e (any_more p cs)
    where
      by : (b : Bool) → (b || list_any p cs) ≡ true → (list_any p cs ≡ true → list_any p (cs ++ class ∷ []) ≡ true) → (b || list_any p (cs ++ class ∷ [])) ≡ true
      by true f later = refl
      by false f later = later f

  shape_same : (s : Shape) → shape_lacks_class classes s ≡ false → shape_lacks_class more s ≡ false
  shape_same (Leaves leaves) e = refl
  shape_same (Objects name) e = ap not (any_more (λ c. bytes_eq c.name name) classes (not-false (is_declared classes name) e))

  pub shapes_same : (bs : List BranchDef) → list_any (λ b. shape_lacks_class classes b.shape) bs ≡ false → list_any (λ b. shape_lacks_class more b.shape) bs ≡ false
  shapes_same [] e = refl
  shapes_same (b ∷ bs) e =
      let parts = or_parts (shape_lacks_class classes b.shape) (list_any (λ b. shape_lacks_class classes b.shape) bs) e in
      rw (shape_same b.shape parts.0, shapes_same bs parts.1) refl

  object_same : (name : List ℕ) (v : Value) → IsStoredObject classes name v → IsStoredObject more name v
  object_same name v o = record {
    taken = put_kept (object_class v) o.taken;
    fit = object_more classes class v o.fit;
    short = ap is_too_long (length_same (object_class v) name v o.fit) ∙ o.short;
    shallow = o.shallow;
    few = o.few;
  }

  tree_same : (t : Tree) → IsStoredTree classes t → IsStoredTree more t
  tree_same t o = record {
    stated = o.stated;
    few = o.few;
    known = shapes_same t.branches o.known;
    rows = rows_same t.branches (rows_of_tree t) o.rows;
  }

-- ---- changes of a state

-- the objects and the trees of a state are such as a file can hold
record Holds (m : State) : Type 0 where
  object_names : (item : NameAndCycle) (v : Value) → get m.objects item ≡ Some v → IsStoredName item.0 item.1
  objects : (item : NameAndCycle) (v : Value) → get m.objects item ≡ Some v → IsStoredObject m.classes item.0 v
  tree_names : (name : List ℕ) (t : Tree) → get m.trees name ≡ Some t → IsStoredName name t.cycle
  trees : (name : List ℕ) (t : Tree) → get m.trees name ≡ Some t → IsStoredTree m.classes t

-- what holds of the entries of a map, and of one that is put into it or taken out of it
object_put_in : (m : State) (item : NameAndCycle) (v : Value) (P : NameAndCycle → Value → Type 0) → ((k : NameAndCycle) (w : Value) → get m.objects k ≡ Some w → P k w) → P item v
    → (k : NameAndCycle) (w : Value) → get (insert m.objects item v) k ≡ Some w → P k w
object_put_in m item v P all new k w e = by (eq_by_cmp item_order k item) refl (sym (get-insert items_total m.objects item v k) ∙ e)
  where
    by : (b : Bool) → eq_by_cmp item_order k item ≡ b → cond b (Some v) (get m.objects k) ≡ Some w → P k w
    by true is f = let key = tells_apart items_tie k item is in subst (λ (x : NameAndCycle). P x w) (sym key) (subst (λ (y : Value). P item y) (same_Some v w f) new)
    by false is f = all k w f

object_out : (m : State) (item : NameAndCycle) (P : NameAndCycle → Value → Type 0) → ((k : NameAndCycle) (w : Value) → get m.objects k ≡ Some w → P k w)
    → (k : NameAndCycle) (w : Value) → get (remove m.objects item) k ≡ Some w → P k w
object_out m item P all k w e = by (eq_by_cmp item_order k item) (sym (get-remove items_total m.objects item k) ∙ e)
  where
    by : (b : Bool) → cond b None (get m.objects k) ≡ Some w → P k w
    by true f = absurd cc
    by false f = all k w f

pub tree_put_in : (m : State) (name : List ℕ) (t : Tree) (P : List ℕ → Tree → Type 0) → ((k : List ℕ) (w : Tree) → get m.trees k ≡ Some w → P k w) → P name t
    → (k : List ℕ) (w : Tree) → get (insert m.trees name t) k ≡ Some w → P k w
tree_put_in m name t P all new k w e = by (eq_by_cmp name_order k name) refl (sym (get-insert names_total m.trees name t k) ∙ e)
  where
    by : (b : Bool) → eq_by_cmp name_order k name ≡ b → cond b (Some t) (get m.trees k) ≡ Some w → P k w
    by true is f = let key = tells_apart names_tie k name is in subst (λ (x : List ℕ). P x w) (sym key) (subst (λ (y : Tree). P name y) (same_Some t w f) new)
    by false is f = all k w f

pub tree_out : (m : State) (name : List ℕ) (P : List ℕ → Tree → Type 0) → ((k : List ℕ) (w : Tree) → get m.trees k ≡ Some w → P k w)
    → (k : List ℕ) (w : Tree) → get (remove m.trees name) k ≡ Some w → P k w
tree_out m name P all k w e = by (eq_by_cmp name_order k name) (sym (get-remove names_total m.trees name k) ∙ e)
  where
    by : (b : Bool) → cond b None (get m.trees k) ≡ Some w → P k w
    by true f = absurd cc
    by false f = all k w f

tree_in : (m : State) (name : List ℕ) (t : Tree) → IsStoredName name t.cycle → IsStoredTree m.classes t → Holds m → Holds (record m { trees = insert m.trees name t })
tree_in m name t named stored h = record {
  object_names = h.object_names;
  objects = h.objects;
  tree_names = tree_put_in m name t (λ k w. IsStoredName k w.cycle) h.tree_names named;
  trees = tree_put_in m name t (λ k w. IsStoredTree m.classes w) h.trees stored;
}

tree_changed : (m : State) (name : List ℕ) (change : Tree → Tree) → ((t : Tree) → get m.trees name ≡ Some t → IsStoredName name (change t).cycle × IsStoredTree m.classes (change t)) → Holds m → Holds (with_tree m name change)
tree_changed m name change new h = by (get m.trees name) refl
  where
    by : (t : Option Tree) → get m.trees name ≡ t → Holds (option_map_or (λ t. record m { trees = insert m.trees name (change t) }) t m)
    by None is = h
    by (Some t) is = let n = new t is in tree_in m name (change t) n.0 n.1 h

item_out : (m : State) (name : List ℕ) (cycle : ℕ) → Holds m → Holds (without_item m name cycle)
item_out m name cycle h = by (names_tree m name)
  where
    by : (b : Bool) → Holds (cond b (record m { trees = remove m.trees name }) (record m { objects = remove m.objects (name, cycle) }))
    by true = record { object_names = h.object_names; objects = h.objects; tree_names = tree_out m name (λ k w. IsStoredName k w.cycle) h.tree_names; trees = tree_out m name (λ k w. IsStoredTree m.classes w) h.trees }
    by false = record { object_names = object_out m (name, cycle) (λ k w. IsStoredName k.0 k.1) h.object_names; objects = object_out m (name, cycle) (λ k w. IsStoredObject m.classes k.0 w) h.objects; tree_names = h.tree_names; trees = h.trees }

-- ---- commands

-- a test of the tree that didn't hold
pub not_passed : (p : Tree → Bool) (t : Option Tree) (u : Tree) → t ≡ Some u → option_map_or p t false ≡ false → p u ≡ false
not_passed p None u is e = absurd cc
not_passed p (Some t) u is e = ap p (sym (same_Some t u is)) ∙ e

class_in : (m : State) (c : ClassDef) → Holds m → Holds (record m { classes = m.classes ++ c ∷ [] })
class_in m c h = record {
  object_names = h.object_names;
  objects = λ k v e. object_same m.classes c k.0 v (h.objects k v e);
  tree_names = h.tree_names;
  trees = λ k t e. tree_same m.classes c t (h.trees k t e);
}

put_in : (m : State) (name : List ℕ) (v : Value) (mark : Option FullMark) → is_item_text name ≡ true → refusal_of m (Put name v) mark ≡ None → Holds m → Holds (state_behind m (Put name v))
unfolding refusal_of
put_in m name v mark stated e h =
    let tests = refusals m (Put name v) mark in
    let free = not_refused (is_list_name name) BadName (none_at tests 1 e) in
    let classes = not_refused (lacks_class m (Put name v)) NoSuchClass (none_at tests 7 e) in
    let last = not_refused (is_at_last_cycle m (Put name v)) CycleLimit (none_at tests 14 e) in
    let large = not_refused (is_too_large m (Put name v)) TooLarge (none_at tests 15 e) in
    let deep = not_refused (goes_too_deep m (Put name v)) TooDeep (none_at tests 16 e) in
    let many = not_refused (has_too_many m (Put name v)) TooMany (none_at tests 17 e) in
    let named : IsStoredName name (next_cycle m name) = record { item = stated; free = free; first = omega arith; last = ltb-false cycle_limit (next_cycle m name) last } in
    let stored : IsStoredObject m.classes name (put_value m v) = record {
      taken = (or_parts _ _ classes).1;
      fit = unrefused_fit m name v mark e;
      short = large;
      shallow = deep;
      few = (or_parts _ _ many).0;
    } in
    record {
      object_names = object_put_in m (name, next_cycle m name) (put_value m v) (λ k w. IsStoredName k.0 k.1) h.object_names named;
      objects = object_put_in m (name, next_cycle m name) (put_value m v) (λ k w. IsStoredObject m.classes k.0 w) h.objects stored;
      tree_names = h.tree_names;
      trees = h.trees;
    }

tree_made_in : (m : State) (name : List ℕ) (branches : List BranchDef) (mark : Option FullMark) → (is_item_text name && are_stated_branches branches) ≡ true → refusal_of m (MakeTree name branches) mark ≡ None → Holds m → Holds (state_behind m (MakeTree name branches))
unfolding refusal_of
tree_made_in m name branches mark stated e h =
    let tests = refusals m (MakeTree name branches) mark in
    let parts = and_parts (is_item_text name) (are_stated_branches branches) stated in
    let free = not_refused (is_list_name name) BadName (none_at tests 1 e) in
    let classes = not_refused (lacks_class m (MakeTree name branches)) NoSuchClass (none_at tests 7 e) in
    let many = not_refused (has_too_many m (MakeTree name branches)) TooMany (none_at tests 17 e) in
    tree_in m name (new_tree branches) (record { item = parts.0; free = free; first = omega arith; last = omega arith })
    (record { stated = parts.1; few = (or_parts _ _ many).1; known = classes; rows = refl }) h

row_in : (m : State) (name : List ℕ) (row : Row) (mark : Option FullMark) → refusal_of m (Fill name row) mark ≡ None → Holds m → Holds (state_behind m (Fill name row))
unfolding refusal_of
row_in m name row mark e h =
    let tests = refusals m (Fill name row) mark in
    let large = not_refused (is_too_large m (Fill name row)) TooLarge (none_at tests 15 e) in
    let deep = not_refused (goes_too_deep m (Fill name row)) TooDeep (none_at tests 16 e) in
    let many = not_refused (has_too_many m (Fill name row)) TooMany (none_at tests 17 e) in
    tree_changed m name (tree_filled (fill_row m row)) (λ t is.
    let old = h.trees name t is in
    let fit = unrefused_row m name row mark e t is in
    let short = not_passed (λ t. has_long_entry m.classes t.branches (fill_row m row)) (get m.trees name) t is large in
    let new : is_stored_row m.classes t.branches (fill_row m row) ≡ true = and_from _ _ (and_from _ _ (and_from _ _ fit (ap not short)) (ap not deep)) (ap not many) in
    let all = all_pushed (is_stored_row m.classes t.branches) (rows_of_tree t) (fill_row m row) old.rows new in (
      h.tree_names name t is,
      record {
        stated = old.stated;
        few = old.few;
        known = old.known;
        rows = subst (λ (rows : List Row). list_all (is_stored_row m.classes t.branches) rows ≡ true) (append_assoc t.saved t.pending (fill_row m row ∷ [])) all;
      },
    )) h

rows_saved_in : (m : State) (name : List ℕ) (mark : Option FullMark) → refusal_of m (Save name) mark ≡ None → Holds m → Holds (state_behind m (Save name))
unfolding refusal_of
rows_saved_in m name mark e h =
    let last = not_refused (is_at_last_cycle m (Save name)) CycleLimit (none_at (refusals m (Save name) mark) 14 e) in
    tree_changed m name tree_saved (λ t is.
    let named = h.tree_names name t is in
    let old = h.trees name t is in
    let below = leb-false cycle_limit t.cycle (not_passed (λ t. nat_le cycle_limit t.cycle) (get m.trees name) t is last) in (
      record { item = named.item; free = named.free; first = omega (arith, named.first); last = omega (arith, below) },
      record {
        stated = old.stated;
        few = old.few;
        known = old.known;
        rows = subst (λ (rows : List Row). list_all (is_stored_row m.classes t.branches) rows ≡ true) (sym (append-nil (rows_of_tree t))) old.rows;
      },
    )) h

batch_in : (puts : List PutItem) (m : State) → list_all (λ p. is_item_text p.name) puts ≡ true → AreTaken m puts → Holds m → Holds (with_objects m puts)
batch_in [] m stated taken h = h
batch_in (p ∷ ps) m stated taken h =
    let parts = and_parts (is_item_text p.name) (list_all (λ q. is_item_text q.name) ps) stated in
    batch_in ps (with_object m p.name p.value) parts.1 taken.1 (put_in m p.name p.value None parts.0 taken.0 h)

behind_holds : (m : State) (c : Command) (mark : Option FullMark) → is_statable c ≡ true → refusal_of m c mark ≡ None → Holds m → Holds (state_behind m c)
behind_holds m (Bad line place) mark stated e h = h
behind_holds m (Class class) mark stated e h = class_in m (declared m.classes class) h
behind_holds m (Put name v) mark stated e h = put_in m name v mark stated e h
behind_holds m (Batch puts) mark stated e h = batch_in puts m (and_parts (nat_lt 0 (length puts)) (list_all (λ p. is_item_text p.name) puts) stated).1 (batch_taken m puts mark e) h
behind_holds m (Delete name cycle) mark stated e h = item_out m name cycle h
behind_holds m (MakeTree name branches) mark stated e h = tree_made_in m name branches mark stated e h
behind_holds m (Fill name row) mark stated e h = row_in m name row mark e h
behind_holds m (Save name) mark stated e h = rows_saved_in m name mark e h
behind_holds m (Get name cycle version) mark stated e h = h
behind_holds m (Scan name class) mark stated e h = h
behind_holds m Ls mark stated e h = h

step_holds : (m : State) (c : Command) (mark : Option FullMark) → is_statable c ≡ true → Holds m → Holds (step m c mark).state
unfolding step
step_holds m c mark stated h = by (refusal_of m c mark) refl
  where
    by : (r : Option Refusal) → refusal_of m c mark ≡ r → Holds (by_refusal m c r).state
    by None e = behind_holds m c mark stated e h
    by (Some refusal) e = h

step_storable : (m : State) (c : Command) (mark : Option FullMark) → is_statable c ≡ true → IsStorable m → IsStorable (step m c mark).state
step_storable m c mark stated s =
    let h = step_holds m c mark stated (record { object_names = s.object_names; objects = s.objects; tree_names = s.tree_names; trees = s.trees }) in
    record {
      classes = classes_stay_declared m c mark stated s.classes;
      apart = names_stay_apart m c mark s.apart;
      object_names = h.object_names;
      objects = h.objects;
      tree_names = h.tree_names;
      trees = h.trees;
    }

no_object : (item : NameAndCycle) (v : Value) → get empty_state.objects item ≡ Some v → ⊥
no_object item v e = let h = sym (get-empty item_order item) ∙ e in absurd cc

pub no_tree : (name : List ℕ) (t : Tree) → get empty_state.trees name ≡ Some t → ⊥
no_tree name t e = let h = sym (get-empty name_order name) ∙ e in absurd cc

empty_storable : IsStorable empty_state
empty_storable = record {
  classes = tt;
  apart = λ name e. ap is_some (get-empty name_order name);
  object_names = λ k v e. absurd (no_object k v e);
  objects = λ k v e. absurd (no_object k v e);
  tree_names = λ k t e. absurd (no_tree k t e);
  trees = λ k t e. absurd (no_tree k t e);
}

pub stays_storable : StaysStorable
stays_storable = record { empty = empty_storable; stays = step_storable }

-- No command makes an object or a row one that doesn't fit.
use Rattle.std.proofs.Common.{◌≡◌, ℕ, List, [], ◌∷◌, ◌++◌, Bool, true, false, cond, not, Option, Some, None, refl, sym, ap, subst, ◌∙◌, append_assoc}
use Rattle.std.proofs.{lemmas.Bool.{and_from, and_parts, not-false}, lemmas.List.{append-nil}, lemmas.Option.{same_Some}}
use Rattle.std.specs.{Prelude.{is_some}, FinMap.{get, get-insert, get-remove, insert, remove}, List.{list_all}, Option.{option_map_or}, Ordering.{eq_by_cmp}}
use Rattle.rio_num.specs.Word.{name_order}
use Rattle.rio_leaf.specs.declared.branch.BranchDef.{BranchDef}
use Rattle.rio_format.specs.{declared.class.ClassDef.{ClassDef}, declared.kind.Kind.TheVariants.{Inline}, declared.value.Value.{Value}, Bodies.{Counters}, Fits.{Labels, fits, fitting_of}, Slots.{Slot, kinded}}
use Rattle.rio_machine.proofs.OrderLaws.{items_total, names_total}
use Rattle.rio_machine.specs.Rows.{Column, column_slot, columns_fit, columns_of, leaf_numbers_behind, row_fits, stands_in}
use Rattle.rio_machine.specs.State.{NameAndCycle, Row, State, Tree, item_order, names_tree, next_cycle}
use Rattle.rio_machine.specs.declared.command.Command.{Command, TheVariants.{Bad, Class, Put, Batch, Delete, Tree as MakeTree, Fill, Save, Get, Scan, Ls}}
use Rattle.rio_machine.specs.declared.command.PutItem.{PutItem}
use Rattle.rio_machine.specs.declared.refusal.Refusal.{Refusal, TheVariants.{DoesNotFit, BadRow}}
use Rattle.rio_model.specs.Declaring.{declared}
use Rattle.rio_step.proofs.{ApartLaws.{none_at, not_refused}, BatchTaken.{batch_taken}, GrowthLaws.{slot_more}}
use Rattle.rio_step.specs.Laws.{AllFit, AllStayFit, AreTaken, FitsStay}
use Rattle.rio_step.specs.Refusing.{FullMark, fill_row, is_bad_row, is_fit, is_unfit, object_class, put_value, refusal_of, refusals, rows_of_tree}
use Rattle.rio_step.specs.Step.{by_refusal, new_tree, state_behind, step, tree_filled, tree_saved, with_object, with_objects, with_tree, without_item}

-- ---- one class more

some_more : (x y : Option Labels) → ((l : Labels) → x ≡ Some l → y ≡ Some l) → is_some x ≡ true → is_some y ≡ true
some_more None y kept e = absurd cc
some_more (Some l) y kept e = ap is_some (kept l refl)

module _ (classes : List ClassDef) (class : ClassDef) where
  abbrev more : List ClassDef
  more = classes ++ class ∷ []

  stands_more : (slot : Slot) (v : Value) → stands_in classes slot v ≡ true → stands_in more slot v ≡ true
  stands_more slot v e = some_more ((fitting_of classes v).fits slot []) ((fitting_of more v).fits slot []) (λ l is. slot_more classes class v slot [] l is) e

  class_fit : (own : Option (List ℕ)) (v : Value) → option_map_or (λ c. fits classes c v) own false ≡ true → option_map_or (λ c. fits more c v) own false ≡ true
  class_fit None v e = absurd cc
  class_fit (Some c) v e = stands_more (kinded (Inline c)) v e

  pub object_more : (v : Value) → is_fit classes v ≡ true → is_fit more v ≡ true
  object_more v e = class_fit (object_class v) v e

  pub columns_more : (cs : List Column) (row : List Value) (counters : Counters) → columns_fit classes cs row counters ≡ true → columns_fit more cs row counters ≡ true
  columns_more [] [] counters e = refl
  columns_more [] (v ∷ vs) counters e = absurd cc
  columns_more (c ∷ cs) [] counters e = absurd cc
  columns_more (c ∷ cs) (v ∷ vs) counters e =
      let parts = and_parts (stands_in classes (column_slot counters c) v) (columns_fit classes cs vs (leaf_numbers_behind c v counters)) e in
      and_from _ _ (stands_more (column_slot counters c) v parts.0) (columns_more cs vs (leaf_numbers_behind c v counters) parts.1)

  pub rows_more : (branches : List BranchDef) (rows : List Row) → list_all (row_fits classes branches) rows ≡ true → list_all (row_fits more branches) rows ≡ true
  rows_more branches [] e = refl
  rows_more branches (r ∷ rs) e =
      let parts = and_parts (row_fits classes branches r) (list_all (row_fits classes branches) rs) e in
      and_from _ _ (columns_more (columns_of branches) r [] parts.0) (rows_more branches rs parts.1)

pub fits_stay : FitsStay
fits_stay classes class own v e = stands_more classes class (kinded (Inline own)) v e

pub all_pushed : (p : Row → Bool) (rows : List Row) (row : Row) → list_all p rows ≡ true → p row ≡ true → list_all p (rows ++ row ∷ []) ≡ true
all_pushed p [] row all e = and_from _ _ e refl
all_pushed p (r ∷ rs) row all e = let parts = and_parts (p r) (list_all p rs) all in and_from _ _ parts.0 (all_pushed p rs row parts.1 e)

-- ---- changes of a state

put_fit : (m : State) (item : NameAndCycle) (v : Value) → is_fit m.classes v ≡ true → AllFit m → AllFit (record m { objects = insert m.objects item v })
put_fit m item v new all = record {
  objects = λ k w e. by k w (eq_by_cmp item_order k item) (sym (get-insert items_total m.objects item v k) ∙ e);
  rows = all.rows;
}
  where
    by : (k : NameAndCycle) (w : Value) (b : Bool) → cond b (Some v) (get m.objects k) ≡ Some w → is_fit m.classes w ≡ true
    by k w true e = ap (is_fit m.classes) (sym (same_Some v w e)) ∙ new
    by k w false e = all.objects k w e

delete_fit : (m : State) (item : NameAndCycle) → AllFit m → AllFit (record m { objects = remove m.objects item })
delete_fit m item all = record {
  objects = λ k w e. by k w (eq_by_cmp item_order k item) (sym (get-remove items_total m.objects item k) ∙ e);
  rows = all.rows;
}
  where
    by : (k : NameAndCycle) (w : Value) (b : Bool) → cond b None (get m.objects k) ≡ Some w → is_fit m.classes w ≡ true
    by k w true e = absurd cc
    by k w false e = all.objects k w e

-- a tree whose rows fit
abbrev RowsFit : State → Tree → Type 0
RowsFit m t = list_all (row_fits m.classes t.branches) (rows_of_tree t) ≡ true

tree_fit : (m : State) (name : List ℕ) (t : Tree) → RowsFit m t → AllFit m → AllFit (record m { trees = insert m.trees name t })
tree_fit m name t new all = record {
  objects = all.objects;
  rows = λ k u e. by k u (eq_by_cmp name_order k name) (sym (get-insert names_total m.trees name t k) ∙ e);
}
  where
    by : (k : List ℕ) (u : Tree) (b : Bool) → cond b (Some t) (get m.trees k) ≡ Some u → RowsFit m u
    by k u true e = subst (λ (x : Tree). RowsFit m x) (same_Some t u e) new
    by k u false e = all.rows k u e

tree_gone_fit : (m : State) (name : List ℕ) → AllFit m → AllFit (record m { trees = remove m.trees name })
tree_gone_fit m name all = record {
  objects = all.objects;
  rows = λ k u e. by k u (eq_by_cmp name_order k name) (sym (get-remove names_total m.trees name k) ∙ e);
}
  where
    by : (k : List ℕ) (u : Tree) (b : Bool) → cond b None (get m.trees k) ≡ Some u → RowsFit m u
    by k u true e = absurd cc
    by k u false e = all.rows k u e

changed_fit : (m : State) (name : List ℕ) (change : Tree → Tree) → ((t : Tree) → get m.trees name ≡ Some t → RowsFit m t → RowsFit m (change t)) → AllFit m → AllFit (with_tree m name change)
changed_fit m name change keeps all = by (get m.trees name) refl
  where
    by : (t : Option Tree) → get m.trees name ≡ t → AllFit (option_map_or (λ t. record m { trees = insert m.trees name (change t) }) t m)
    by None is = all
    by (Some t) is = tree_fit m name (change t) (keeps t is (all.rows name t is)) all

without_fit : (m : State) (name : List ℕ) (cycle : ℕ) → AllFit m → AllFit (without_item m name cycle)
without_fit m name cycle all = by (names_tree m name)
  where
    by : (b : Bool) → AllFit (cond b (record m { trees = remove m.trees name }) (record m { objects = remove m.objects (name, cycle) }))
    by true = tree_gone_fit m name all
    by false = delete_fit m (name, cycle) all

-- ---- commands

pub unrefused_fit : (m : State) (name : List ℕ) (v : Value) (mark : Option FullMark) → refusal_of m (Put name v) mark ≡ None → is_fit m.classes (put_value m v) ≡ true
unfolding refusal_of
unrefused_fit m name v mark e = not-false _ (not_refused (is_unfit m (Put name v)) DoesNotFit (none_at (refusals m (Put name v) mark) 10 e))

passed_row : (m : State) (row : Row) (t : Option Tree) (u : Tree) → t ≡ Some u → option_map_or (λ t. not (row_fits m.classes t.branches row)) t false ≡ false → row_fits m.classes u.branches row ≡ true
passed_row m row None u is e = absurd cc
passed_row m row (Some t) u is e = ap (λ x. row_fits m.classes x.branches row) (sym (same_Some t u is)) ∙ not-false _ e

pub unrefused_row : (m : State) (name : List ℕ) (row : Row) (mark : Option FullMark) → refusal_of m (Fill name row) mark ≡ None → (t : Tree) → get m.trees name ≡ Some t → row_fits m.classes t.branches (fill_row m row) ≡ true
unfolding refusal_of
unrefused_row m name row mark e t is =
    passed_row m (fill_row m row) (get m.trees name) t is (not_refused (is_bad_row m (Fill name row)) BadRow (none_at (refusals m (Fill name row) mark) 11 e))

filled_fit : (m : State) (row : Row) (t : Tree) → row_fits m.classes t.branches row ≡ true → RowsFit m t → RowsFit m (tree_filled row t)
filled_fit m row t new all =
    subst (λ (rows : List Row). list_all (row_fits m.classes t.branches) rows ≡ true) (append_assoc t.saved t.pending (row ∷ [])) (all_pushed (row_fits m.classes t.branches) (rows_of_tree t) row all new)

saved_fit : (m : State) (t : Tree) → RowsFit m t → RowsFit m (tree_saved t)
saved_fit m t all = subst (λ (rows : List Row). list_all (row_fits m.classes t.branches) rows ≡ true) (sym (append-nil (rows_of_tree t))) all

class_more_fit : (m : State) (class : ClassDef) → AllFit m → AllFit (record m { classes = m.classes ++ class ∷ [] })
class_more_fit m class all = record {
  objects = λ k v e. object_more m.classes class v (all.objects k v e);
  rows = λ k t e. rows_more m.classes class t.branches (rows_of_tree t) (all.rows k t e);
}

batch_fit : (puts : List PutItem) (m : State) → AreTaken m puts → AllFit m → AllFit (with_objects m puts)
batch_fit [] m taken all = all
batch_fit (p ∷ ps) m taken all =
    batch_fit ps (with_object m p.name p.value) taken.1 (put_fit m (p.name, next_cycle m p.name) (put_value m p.value) (unrefused_fit m p.name p.value None taken.0) all)

behind_fit : (m : State) (c : Command) (mark : Option FullMark) → refusal_of m c mark ≡ None → AllFit m → AllFit (state_behind m c)
behind_fit m (Bad line place) mark e all = all
behind_fit m (Class class) mark e all = class_more_fit m (declared m.classes class) all
behind_fit m (Put name v) mark e all = put_fit m (name, next_cycle m name) (put_value m v) (unrefused_fit m name v mark e) all
behind_fit m (Batch puts) mark e all = batch_fit puts m (batch_taken m puts mark e) all
behind_fit m (Delete name cycle) mark e all = without_fit m name cycle all
behind_fit m (MakeTree name branches) mark e all = tree_fit m name (new_tree branches) refl all
behind_fit m (Fill name row) mark e all = changed_fit m name (tree_filled (fill_row m row)) (λ t is fit. filled_fit m (fill_row m row) t (unrefused_row m name row mark e t is) fit) all
behind_fit m (Save name) mark e all = changed_fit m name tree_saved (λ t is fit. saved_fit m t fit) all
behind_fit m (Get name cycle version) mark e all = all
behind_fit m (Scan name class) mark e all = all
behind_fit m Ls mark e all = all

pub all_stay_fit : AllStayFit
unfolding step
all_stay_fit m c mark all = by (refusal_of m c mark) refl
  where
    by : (r : Option Refusal) → refusal_of m c mark ≡ r → AllFit (by_refusal m c r).state
    by None e = behind_fit m c mark e all
    by (Some refusal) e = all

-- No command but a delete takes an object or a row away.
use Rattle.std.proofs.{Common.{◌≡◌, ℕ, List, [], ◌∷◌, Bool, true, false, cond, Option, Some, None, refl, sym, ap, ◌∙◌, append_assoc}, lemmas.List.{append-nil}}
use Rattle.std.proofs.{lemmas.Map.Views.{tells_apart}, lemmas.Bool.{or_parts}, lemmas.Option.{same_Some}}
use Rattle.std.specs.{FinMap.{get, get-insert, insert}, Option.{is_some, option_map_or}, Ordering.{eq_by_cmp}}
use Rattle.rio_num.specs.Word.{name_order}
use Rattle.rio_format.specs.declared.value.Value.{Value}
use Rattle.rio_machine.proofs.OrderLaws.{items_tie, items_total, names_tie, names_total}
use Rattle.rio_machine.specs.State.{NameAndCycle, Row, State, Tree, item_order, names_object, names_tree, next_cycle}
use Rattle.rio_machine.specs.declared.command.Command.{Command, TheVariants.{Bad, Class, Put, Batch, Delete, Tree as MakeTree, Fill, Save, Get, Scan, Ls}}
use Rattle.rio_machine.specs.declared.command.PutItem.{PutItem}
use Rattle.rio_machine.specs.declared.refusal.Refusal.{Refusal}
use Rattle.rio_step.proofs.{ApartLaws.{no_name_in_use}, BatchLaws.{same_trees}, StepLaws.{next_is_free}}
use Rattle.rio_step.specs.{Laws.{HasRowsOf, Keeps, KeepsRows, NothingIsLost, is_delete}, Refusing.{FullMark, fill_row, put_value, refusal_of, rows_of_tree}}
use Rattle.rio_step.specs.Step.{by_refusal, new_tree, state_behind, step, tree_filled, tree_saved, with_object, with_objects, with_tree}

-- ---- objects

put_keeps : (m : State) (item : NameAndCycle) (v : Value) → get m.objects item ≡ None → Keeps m.objects (insert m.objects item v)
put_keeps m item v free k x e = get-insert items_total m.objects item v k ∙ by (eq_by_cmp item_order k item) refl
  where
    by : (b : Bool) → eq_by_cmp item_order k item ≡ b → cond b (Some v) (get m.objects k) ≡ Some x
    by true is = absurd (let same = tells_apart items_tie k item is in let h = sym e ∙ ap (get m.objects) same ∙ free in cc)
    by false is = e

batch_keeps : (puts : List PutItem) (m : State) → Keeps m.objects (with_objects m puts).objects
batch_keeps [] m k x e = e
batch_keeps (p ∷ ps) m k x e =
    batch_keeps ps (with_object m p.name p.value) k x (put_keeps m (p.name, next_cycle m p.name) (put_value m p.value) (next_is_free m p.name) k x e)

objects_behind : (m : State) (c : Command) → is_delete c ≡ false → Keeps m.objects (state_behind m c).objects
objects_behind m (Bad line place) d k x e = e
objects_behind m (Class class) d k x e = e
objects_behind m (Put name v) d k x e = put_keeps m (name, next_cycle m name) (put_value m v) (next_is_free m name) k x e
objects_behind m (Batch puts) d k x e = batch_keeps puts m k x e
objects_behind m (Delete name cycle) d k x e = absurd cc
objects_behind m (MakeTree name branches) d k x e = e
objects_behind m (Fill name row) d k x e = with_same (get m.trees name)
  where
    with_same : (t : Option Tree) → get (option_map_or (λ t. record m { trees = insert m.trees name (tree_filled (fill_row m row) t) }) t m).objects k ≡ Some x
    with_same None = e
    with_same (Some t) = e
objects_behind m (Save name) d k x e = with_same (get m.trees name)
  where
    with_same : (t : Option Tree) → get (option_map_or (λ t. record m { trees = insert m.trees name (tree_saved t) }) t m).objects k ≡ Some x
    with_same None = e
    with_same (Some t) = e
objects_behind m (Get name cycle version) d k x e = e
objects_behind m (Scan name class) d k x e = e
objects_behind m Ls d k x e = e

-- ---- rows

abbrev Rows : Tree → Option Tree → Type 0
Rows t o = (u : Tree) × (o ≡ Some u) × HasRowsOf t u

same_rows : (t : Tree) → HasRowsOf t t
same_rows t = record { branches = refl; more = []; rows = sym (append-nil (rows_of_tree t)) }

filled_rows : (row : Row) (t : Tree) → HasRowsOf t (tree_filled row t)
filled_rows row t = record { branches = refl; more = row ∷ []; rows = sym (append_assoc t.saved t.pending (row ∷ [])) }

saved_rows : (t : Tree) → HasRowsOf t (tree_saved t)
saved_rows t = record { branches = refl; more = []; rows = refl }

changed_rows : (m : State) (name : List ℕ) (change : Tree → Tree) → ((t : Tree) → HasRowsOf t (change t)) → KeepsRows m (with_tree m name change)
changed_rows m name change keeps k t e = by_tree (get m.trees name) refl
  where
    by_key : (s : Tree) → get m.trees name ≡ Some s → (b : Bool) → eq_by_cmp name_order k name ≡ b → Rows t (cond b (Some (change s)) (get m.trees k))
    by_key s is true tie =
        let same = same_Some s t (sym is ∙ ap (get m.trees) (sym (tells_apart names_tie k name tie)) ∙ e) in
        (change t, ap (λ u. Some (change u)) same, keeps t)
    by_key s is false tie = (t, e, same_rows t)

    by_tree : (s : Option Tree) → get m.trees name ≡ s → Rows t (get (option_map_or (λ u. record m { trees = insert m.trees name (change u) }) s m).trees k)
    by_tree None is = (t, e, same_rows t)
    by_tree (Some s) is =
        let there = by_key s is (eq_by_cmp name_order k name) refl in
        (there.0, get-insert names_total m.trees name (change s) k ∙ there.1, there.2)

made_rows : (m : State) (name : List ℕ) (t : Tree) → names_tree m name ≡ false → KeepsRows m (record m { trees = insert m.trees name t })
made_rows m name new none k t e =
    let there = by (eq_by_cmp name_order k name) refl in
    (t, get-insert names_total m.trees name new k ∙ there, same_rows t)
  where
    by : (b : Bool) → eq_by_cmp name_order k name ≡ b → cond b (Some new) (get m.trees k) ≡ Some t
    by true tie = absurd (let same = tells_apart names_tie k name tie in let h = sym none ∙ ap (names_tree m) (sym same) ∙ ap is_some e in cc)
    by false tie = e

rows_behind : (m : State) (c : Command) (mark : Option FullMark) → refusal_of m c mark ≡ None → is_delete c ≡ false → KeepsRows m (state_behind m c)
rows_behind m (Bad line place) mark a d k t e = (t, e, same_rows t)
rows_behind m (Class class) mark a d k t e = (t, e, same_rows t)
rows_behind m (Put name v) mark a d k t e = (t, e, same_rows t)
rows_behind m (Batch puts) mark a d k t e = (t, ap (λ trees. get trees k) (same_trees puts m) ∙ e, same_rows t)
rows_behind m (Delete name cycle) mark a d k t e = absurd cc
rows_behind m (MakeTree name branches) mark a d k t e = made_rows m name (new_tree branches) ((or_parts (names_object m name) (names_tree m name) (no_name_in_use m (MakeTree name branches) mark a)).1) k t e
rows_behind m (Fill name row) mark a d k t e = changed_rows m name (tree_filled (fill_row m row)) (filled_rows (fill_row m row)) k t e
rows_behind m (Save name) mark a d k t e = changed_rows m name tree_saved saved_rows k t e
rows_behind m (Get name cycle version) mark a d k t e = (t, e, same_rows t)
rows_behind m (Scan name class) mark a d k t e = (t, e, same_rows t)
rows_behind m Ls mark a d k t e = (t, e, same_rows t)

-- ---- steps

step_objects : (m : State) (c : Command) (mark : Option FullMark) → is_delete c ≡ false → Keeps m.objects (step m c mark).state.objects
unfolding step
step_objects m c mark d k x e = by (refusal_of m c mark)
  where
    by : (r : Option Refusal) → get (by_refusal m c r).state.objects k ≡ Some x
    by None = objects_behind m c d k x e
    by (Some refusal) = e

step_rows : (m : State) (c : Command) (mark : Option FullMark) → is_delete c ≡ false → KeepsRows m (step m c mark).state
unfolding step
step_rows m c mark d k t e = by (refusal_of m c mark) refl
  where
    by : (r : Option Refusal) → refusal_of m c mark ≡ r → Rows t (get (by_refusal m c r).state.trees k)
    by None a = rows_behind m c mark a d k t e
    by (Some refusal) a = (t, e, same_rows t)

pub nothing_is_lost : NothingIsLost
nothing_is_lost = record { objects = step_objects; rows = step_rows }

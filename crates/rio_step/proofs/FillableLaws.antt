-- A command leaves a state whose trees can be filled.
use Rattle.std.proofs.Common.{◌≡◌, ℕ, List, [], ◌∷◌, ◌++◌, Bool, true, false, cond, not, ◌&&◌, Option, Some, None, refl, ap}
use Rattle.std.proofs.lemmas.Bool.{and_from, and_parts, or_parts}
use Rattle.std.specs.{Prelude.{is_some}, FinMap.{get, get-empty, insert, remove}, Option.{option_map_or}}
use Rattle.rio_num.specs.Word.{is_item_text, name_order}
use Rattle.rio_leaf.specs.{declared.branch.BranchDef.{BranchDef}, Stated.{are_stated_branches}}
use Rattle.rio_format.specs.declared.class.ClassDef.{ClassDef}
use Rattle.rio_machine.specs.Limits.{has_long_entry}
use Rattle.rio_machine.specs.declared.command.Command.{Command, TheVariants.{Bad, Class, Put, Batch, Delete, Tree as MakeTree, Fill, Save, Get, Scan, Ls}}
use Rattle.rio_machine.specs.declared.command.PutItem.{PutItem}
use Rattle.rio_machine.specs.declared.refusal.Refusal.{Refusal, TheVariants.{BadName, NoSuchClass, TooLarge, TooDeep, TooMany}}
use Rattle.rio_machine.specs.State.{Row, State, Tree, empty_state, names_tree}
use Rattle.rio_model.specs.Declaring.{declared}
use Rattle.rio_step.proofs.{ApartLaws.{names_stay_apart, none_at, not_refused}, DeclaredLaws.{classes_stay_declared}, FitStays.{all_pushed, unrefused_row}}
use Rattle.rio_step.proofs.StorableLaws.{no_tree, not_passed, rows_same, shapes_same, tree_out, tree_put_in}
use Rattle.rio_step.specs.Refusing.{FullMark, fill_row, goes_too_deep, has_too_many, is_list_name, is_too_large, lacks_class, refusal_of, refusals}
use Rattle.rio_step.specs.{Statable.{is_statable}, Step.{by_refusal, new_tree, state_behind, step, tree_filled, tree_saved, with_object, with_objects, with_tree, without_item}}
use Rattle.rio_step.specs.Storable.{IsFillable, IsFillableTree, IsTreeName, StaysFillable, is_stored_row}

-- what holds of the trees of a state
record TreesHold (m : State) : Type 0 where
  names : (name : List ℕ) (t : Tree) → get m.trees name ≡ Some t → IsTreeName name
  trees : (name : List ℕ) (t : Tree) → get m.trees name ≡ Some t → IsFillableTree m.classes t

tree_more : (classes : List ClassDef) (class : ClassDef) (t : Tree) → IsFillableTree classes t → IsFillableTree (classes ++ class ∷ []) t
tree_more classes class t o = record {
  stated = o.stated;
  few = o.few;
  known = shapes_same classes class t.branches o.known;
  rows = rows_same classes class t.branches t.pending o.rows;
}

class_in : (m : State) (c : ClassDef) → TreesHold m → TreesHold (record m { classes = m.classes ++ c ∷ [] })
class_in m c h = record {
  names = h.names;
  trees = λ k t e. tree_more m.classes c t (h.trees k t e);
}

tree_in : (m : State) (name : List ℕ) (t : Tree) → IsTreeName name → IsFillableTree m.classes t → TreesHold m → TreesHold (record m { trees = insert m.trees name t })
tree_in m name t named fillable h = record {
  names = tree_put_in m name t (λ k w. IsTreeName k) h.names named;
  trees = tree_put_in m name t (λ k w. IsFillableTree m.classes w) h.trees fillable;
}

tree_changed : (m : State) (name : List ℕ) (change : Tree → Tree) → ((t : Tree) → get m.trees name ≡ Some t → IsFillableTree m.classes (change t)) → TreesHold m → TreesHold (with_tree m name change)
tree_changed m name change new h = by (get m.trees name) refl
  where
    by : (t : Option Tree) → get m.trees name ≡ t → TreesHold (option_map_or (λ t. record m { trees = insert m.trees name (change t) }) t m)
    by None is = h
    by (Some t) is = tree_in m name (change t) (h.names name t is) (new t is) h

item_out : (m : State) (name : List ℕ) (cycle : ℕ) → TreesHold m → TreesHold (without_item m name cycle)
item_out m name cycle h = by (names_tree m name)
  where
    by : (b : Bool) → TreesHold (cond b (record m { trees = remove m.trees name }) (record m { objects = remove m.objects (name, cycle) }))
    by true = record { names = tree_out m name (λ k w. IsTreeName k) h.names; trees = tree_out m name (λ k w. IsFillableTree m.classes w) h.trees }
    by false = record { names = h.names; trees = h.trees }

tree_made_in : (m : State) (name : List ℕ) (branches : List BranchDef) (mark : Option FullMark) → (is_item_text name && are_stated_branches branches) ≡ true → refusal_of m (MakeTree name branches) mark ≡ None → TreesHold m → TreesHold (state_behind m (MakeTree name branches))
unfolding refusal_of
tree_made_in m name branches mark stated e h =
    let tests = refusals m (MakeTree name branches) mark in
    let parts = and_parts (is_item_text name) (are_stated_branches branches) stated in
    let free = not_refused (is_list_name name) BadName (none_at tests 1 e) in
    let classes = not_refused (lacks_class m (MakeTree name branches)) NoSuchClass (none_at tests 7 e) in
    let many = not_refused (has_too_many m (MakeTree name branches)) TooMany (none_at tests 17 e) in
    tree_in m name (new_tree branches) (record { item = parts.0; free = free })
    (record { stated = parts.1; few = (or_parts _ _ many).1; known = classes; rows = refl }) h

row_in : (m : State) (name : List ℕ) (row : Row) (mark : Option FullMark) → refusal_of m (Fill name row) mark ≡ None → TreesHold m → TreesHold (state_behind m (Fill name row))
unfolding refusal_of
row_in m name row mark e h =
    let tests = refusals m (Fill name row) mark in
    let large = not_refused (is_too_large m (Fill name row)) TooLarge (none_at tests 15 e) in
    let deep = not_refused (goes_too_deep m (Fill name row)) TooDeep (none_at tests 16 e) in
    let many = not_refused (has_too_many m (Fill name row)) TooMany (none_at tests 17 e) in
    tree_changed m name (tree_filled (fill_row m row)) (λ t is.
    let old = h.trees name t is in
    let fit = unrefused_row m name row mark e t is in
    let short = not_passed (λ t. has_long_entry m.classes t.branches (fill_row m row)) (get m.trees name) t is large in
    let new : is_stored_row m.classes t.branches (fill_row m row) ≡ true = and_from _ _ (and_from _ _ (and_from _ _ fit (ap not short)) (ap not deep)) (ap not many) in
    record {
      stated = old.stated;
      few = old.few;
      known = old.known;
      rows = all_pushed (is_stored_row m.classes t.branches) t.pending (fill_row m row) old.rows new;
    }) h

rows_saved_in : (m : State) (name : List ℕ) → TreesHold m → TreesHold (state_behind m (Save name))
rows_saved_in m name h =
    tree_changed m name tree_saved (λ t is.
    let old = h.trees name t is in
    record { stated = old.stated; few = old.few; known = old.known; rows = refl }) h

batch_in : (puts : List PutItem) (m : State) → TreesHold m → TreesHold (with_objects m puts)
batch_in [] m h = h
batch_in (p ∷ ps) m h = batch_in ps (with_object m p.name p.value) (record { names = h.names; trees = h.trees })

behind_holds : (m : State) (c : Command) (mark : Option FullMark) → is_statable c ≡ true → refusal_of m c mark ≡ None → TreesHold m → TreesHold (state_behind m c)
behind_holds m (Bad line place) mark stated e h = h
behind_holds m (Class class) mark stated e h = class_in m (declared m.classes class) h
behind_holds m (Put name v) mark stated e h = record { names = h.names; trees = h.trees }
behind_holds m (Batch puts) mark stated e h = batch_in puts m h
behind_holds m (Delete name cycle) mark stated e h = item_out m name cycle h
behind_holds m (MakeTree name branches) mark stated e h = tree_made_in m name branches mark stated e h
behind_holds m (Fill name row) mark stated e h = row_in m name row mark e h
behind_holds m (Save name) mark stated e h = rows_saved_in m name h
behind_holds m (Get name cycle version) mark stated e h = h
behind_holds m (Scan name class) mark stated e h = h
behind_holds m Ls mark stated e h = h

step_holds : (m : State) (c : Command) (mark : Option FullMark) → is_statable c ≡ true → TreesHold m → TreesHold (step m c mark).state
unfolding step
step_holds m c mark stated h = by (refusal_of m c mark) refl
  where
    by : (r : Option Refusal) → refusal_of m c mark ≡ r → TreesHold (by_refusal m c r).state
    by None e = behind_holds m c mark stated e h
    by (Some refusal) e = h

step_fillable : (m : State) (c : Command) (mark : Option FullMark) → is_statable c ≡ true → IsFillable m → IsFillable (step m c mark).state
step_fillable m c mark stated s =
    let h = step_holds m c mark stated (record { names = s.tree_names; trees = s.trees }) in
    record {
      classes = classes_stay_declared m c mark stated s.classes;
      apart = names_stay_apart m c mark s.apart;
      tree_names = h.names;
      trees = h.trees;
    }

empty_fillable : IsFillable empty_state
empty_fillable = record {
  classes = tt;
  apart = λ name e. ap is_some (get-empty name_order name);
  tree_names = λ k t e. absurd (no_tree k t e);
  trees = λ k t e. absurd (no_tree k t e);
}

pub stays_fillable : StaysFillable
stays_fillable = record { empty = empty_fillable; stays = step_fillable }

-- States that a file can hold.
use Rattle.std.specs.{Prelude.{◌≡◌, ◌≤◌, ℕ, List, Option, Bool, true, false, not, ◌&&◌, Some}, FinMap.{get}, List.{list_all, list_any}}
use Rattle.rio_num.specs.Word.{is_item_text}
use Rattle.rio_leaf.specs.{Stated.{are_stated_branches}, declared.branch.BranchDef.{BranchDef}}
use Rattle.rio_format.specs.{declared.class.ClassDef.{ClassDef}, declared.value.Value.{Value}}
use Rattle.rio_model.specs.{Declaring.{shape_lacks_class}, StateClasses.{StateClasses}}
use Rattle.rio_machine.specs.{Limits.{cycle_limit, has_long_entry, has_long_list, has_many_branches, is_too_deep, is_too_long}, Rows.{row_fits}}
use Rattle.rio_machine.specs.{State.{NameAndCycle, Row, State, Tree, empty_state}, declared.command.Command.{Command}}
use Rattle.rio_step.specs.{Laws.{AreNamesApart}, Refusing.{FullMark, is_fit, is_kept_out, is_list_name, object_length, rows_of_tree}}
use Rattle.rio_step.specs.{Statable.{is_statable}, Step.{step}}

-- a name and a cycle that an object or a tree may have
pub record IsStoredName (name : List ℕ) (cycle : ℕ) : Type 0 where
  pub item : is_item_text name ≡ true
  pub free : is_list_name name ≡ false
  pub first : 1 ≤ cycle
  pub last : cycle ≤ cycle_limit

-- an object of a class that a put takes, which fits it and passes no limit
pub record IsStoredObject (classes : List ClassDef) (name : List ℕ) (v : Value) : Type 0 where
  pub taken : is_kept_out classes v ≡ false
  pub fit : is_fit classes v ≡ true
  pub short : is_too_long (object_length classes name v) ≡ false
  pub shallow : is_too_deep v ≡ false
  pub few : has_long_list v ≡ false

-- a row that fits the branches and passes no limit
abbrev pub is_stored_row : List ClassDef → List BranchDef → Row → Bool
is_stored_row classes branches row =
    row_fits classes branches row && not (has_long_entry classes branches row) && not (list_any is_too_deep row) && not (list_any has_long_list row)

-- branches that a line can state, of known classes and not too many, and rows that fit them
pub record IsStoredTree (classes : List ClassDef) (t : Tree) : Type 0 where
  pub stated : are_stated_branches t.branches ≡ true
  pub few : has_many_branches t.branches ≡ false
  pub known : list_any (λ b. shape_lacks_class classes b.shape) t.branches ≡ false
  pub rows : list_all (is_stored_row classes t.branches) (rows_of_tree t) ≡ true

-- the classes are such as class commands declare; names and cycles, objects and trees are as a file has them
pub record IsStorable (m : State) : Type 0 where
  pub classes : StateClasses m.classes
  pub apart : AreNamesApart m
  pub object_names : (item : NameAndCycle) (v : Value) → get m.objects item ≡ Some v → IsStoredName item.0 item.1
  pub objects : (item : NameAndCycle) (v : Value) → get m.objects item ≡ Some v → IsStoredObject m.classes item.0 v
  pub tree_names : (name : List ℕ) (t : Tree) → get m.trees name ≡ Some t → IsStoredName name t.cycle
  pub trees : (name : List ℕ) (t : Tree) → get m.trees name ≡ Some t → IsStoredTree m.classes t

-- ---- trees that are filled further

-- a name that is none of the class list
pub record IsTreeName (name : List ℕ) : Type 0 where
  pub item : is_item_text name ≡ true
  pub free : is_list_name name ≡ false

-- branches that a line can state, of known classes and not too many, and pending rows that fit them and pass no limit
pub record IsFillableTree (classes : List ClassDef) (t : Tree) : Type 0 where
  pub stated : are_stated_branches t.branches ≡ true
  pub few : has_many_branches t.branches ≡ false
  pub known : list_any (λ b. shape_lacks_class classes b.shape) t.branches ≡ false
  pub rows : list_all (is_stored_row classes t.branches) t.pending ≡ true

-- Whatever objects and saved rows another program has written, the trees of the state can be filled and saved.
pub record IsFillable (m : State) : Type 0 where
  pub classes : StateClasses m.classes
  pub apart : AreNamesApart m
  pub tree_names : (name : List ℕ) (t : Tree) → get m.trees name ≡ Some t → IsTreeName name
  pub trees : (name : List ℕ) (t : Tree) → get m.trees name ≡ Some t → IsFillableTree m.classes t

-- ---- laws

-- the state of a file that isn't made yet is one, and a command that a script can state leaves a state that a file can hold
pub record StaysStorable : Type 0 where
  pub empty : IsStorable empty_state
  pub stays : (m : State) (c : Command) (mark : Option FullMark) → is_statable c ≡ true → IsStorable m → IsStorable (step m c mark).state

-- the same of trees that can be filled
pub record StaysFillable : Type 0 where
  pub empty : IsFillable empty_state
  pub stays : (m : State) (c : Command) (mark : Option FullMark) → is_statable c ≡ true → IsFillable m → IsFillable (step m c mark).state

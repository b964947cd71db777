-- What is found of a command where trees are kept.
use Rattle.std.specs.{Prelude.{◌≡◌, ◌<◌, ℕ, List, [], length, map, Bool, true, false, ◌==◌, Option, Some, None, IsSome, is_some, option_and_then, if◌then◌else◌}, FinMap.{get}, List.{filter, list_any}, Option.{option_map_or}}
use Rattle.rio_key.specs.declared.head.KeyHead.{KeyHead}
use Rattle.rio_dir.specs.Table.{AreOrdered, head_of}
use Rattle.rio_leaf.specs.declared.branch.BranchDef.{BranchDef}
use Rattle.rio_format.specs.{declared.class.Base.{Base}, declared.class.ClassDef.{ClassDef}}
use Rattle.rio_model.specs.Resolving.{is_known_version, resolved_row}
use Rattle.rio_tree_table.specs.{Table.{AreOrdered as AreTreesOrdered, tree_of}, declared.table.KeptTree.{KeptTree}}
use Rattle.rio_machine.specs.{Limits.{cycle_limit, has_long_entry, has_many_branches, item_limit}, Rows.{row_fits}, State.{Row, State}}
use Rattle.rio_machine.specs.declared.command.Command.{Command, TheVariants.{Put, Batch, Delete, Tree as MakeTree, Fill, Save, Get, Scan}}
use Rattle.rio_machine.specs.declared.refusal.Refusal.{Refusal}
use Rattle.rio_machine.specs.declared.entry_fault.EntryFault.{EntryFault, TheVariants.{BadRow, TooLarge}}
use Rattle.rio_step.specs.{ItemKeys.{AreKeysOfState}, KeptItems.{AreItemsOfState, is_tree_key}}
use Rattle.rio_step.specs.Refusing.{fill_row, is_list_name, refusal_of, tree_passes}
use Rattle.rio_model.specs.Declaring.{shape_lacks_class}
use Rattle.rio_judge.specs.Judging.{IsWorkOf, WorkCanBeDone, refused_by_object}
use Rattle.rio_judge.specs.declared.work.{AnyWork.{AnyWork, TheVariants.{Item, Tree as OfTree}}, JudgedWithTrees.{JudgedWithTrees, TheVariants.{Accepted, Refused}}}
use Rattle.rio_judge.specs.declared.work.{NewRow.{NewRow}, NewTree.{NewTree}, Work.{Work}}
use Rattle.rio_judge.specs.declared.work.TreeWork.{TreeWork, TheVariants.{Make as Making, Fill as Filling, Save as Saving, Delete as Deleting, Scan as Telling}}

-- the verbs of trees
abbrev pub is_tree_verb : Command → Bool
is_tree_verb (MakeTree name branches) = true
is_tree_verb (Fill name row) = true
is_tree_verb (Save name) = true
is_tree_verb (Scan name class) = true
is_tree_verb other = false

-- ---- by a state

-- a tree of the name is there, in this cycle
abbrev pub HasTree : State → List ℕ → ℕ → Type 0
HasTree m name cycle = tree_passes m name (λ t. t.cycle == cycle) ≡ true

-- what a command is to do to a tree of a state: what its step does
abbrev pub IsTreeWorkOf : State → Command → TreeWork → Type 0
IsTreeWorkOf m (MakeTree name branches) (Making t) = (t.name ≡ name) × (t.branches ≡ branches)
IsTreeWorkOf m (Fill name row) (Filling r) = (r.name ≡ name) × (r.row ≡ fill_row m row) × HasTree m name r.cycle
IsTreeWorkOf m (Save name) (Saving h) = (h.name ≡ name) × HasTree m name h.cycle
IsTreeWorkOf m (Delete name cycle) (Deleting h) = (h.name ≡ name) × (h.cycle ≡ cycle) × HasTree m name h.cycle
IsTreeWorkOf m (Scan name class) (Telling h asked) = (h.name ≡ name) × (asked ≡ class) × HasTree m name h.cycle
IsTreeWorkOf m other work = ⊥

abbrev pub IsAnyWorkOf : State → Command → AnyWork → Type 0
IsAnyWorkOf m c (Item work) = IsWorkOf m c work
IsAnyWorkOf m c (OfTree work) = IsTreeWorkOf m c work

-- It tells the state's first refusal, or what the command is to do. The state then refuses the command for no other reason
-- than one that an object, the rows of a tree or the row that is added tell.
abbrev pub IsJudgementWithTrees : State → Command → JudgedWithTrees → Type 0
IsJudgementWithTrees m c (Refused refusal) = refusal_of m c None ≡ Some refusal
IsJudgementWithTrees m c (Accepted work) = (refusal_of m c None ≡ refused_by_object m c) × IsAnyWorkOf m c work

-- it is so for each state that has these classes and for whose objects and trees these keys and trees stand
abbrev pub IsJudgementOfItems : List ClassDef → List KeyHead → List KeptTree → Command → JudgedWithTrees → Type 0
IsJudgementOfItems classes heads trees c judged = (m : State) → m.classes ≡ classes → AreItemsOfState heads trees m → IsJudgementWithTrees m c judged

-- ---- by classes, keys and trees alone

-- A tree that is made passes no limit, its classes are declared, and no key has its name.
pub record CanBeMade (classes : List ClassDef) (heads : List KeyHead) (name : List ℕ) (branches : List BranchDef) (t : NewTree) : Type 0 where
  pub named : t.name ≡ name
  pub stated : t.branches ≡ branches
  pub free : is_list_name name ≡ false
  pub new : head_of name None heads ≡ None
  pub known : list_any (λ b. shape_lacks_class classes b.shape) branches ≡ false
  pub few : has_many_branches branches ≡ false
  pub room : length heads < item_limit

-- the key is the first of a name that a tree has
pub record IsTreeKeyOf (heads : List KeyHead) (trees : List KeptTree) (name : List ℕ) (h : KeyHead) : Type 0 where
  pub key : head_of name None heads ≡ Some h
  pub tree : IsSome (tree_of name trees)

-- the class of a scan is known in the version that is asked, if one is asked
abbrev pub IsVersionKnown : List ClassDef → Option Base → Type 0
IsVersionKnown classes class = option_map_or (λ asked. is_known_version classes asked.name asked.version) class true ≡ true

-- what a command is to do to a tree can be done
abbrev pub TreeWorkCanBeDone : List ClassDef → List KeyHead → List KeptTree → Command → TreeWork → Type 0
TreeWorkCanBeDone classes heads trees (MakeTree name branches) (Making t) = CanBeMade classes heads name branches t
TreeWorkCanBeDone classes heads trees (Fill name row) (Filling r) =
    (r.name ≡ name) × (resolved_row classes row ≡ Some r.row) × ((h : KeyHead) × IsTreeKeyOf heads trees name h × (r.cycle ≡ h.cycle))
TreeWorkCanBeDone classes heads trees (Save name) (Saving h) = IsTreeKeyOf heads trees name h × (h.cycle < cycle_limit)
TreeWorkCanBeDone classes heads trees (Delete name cycle) (Deleting h) = IsTreeKeyOf heads trees name h × (h.cycle ≡ cycle)
TreeWorkCanBeDone classes heads trees (Scan name class) (Telling h asked) = IsTreeKeyOf heads trees name h × (asked ≡ class) × IsVersionKnown classes class
TreeWorkCanBeDone classes heads trees other work = ⊥

-- no tree has the name of an object that a command stores, deletes or tells
abbrev pub HasNoTree : List KeptTree → Command → Type 0
HasNoTree trees (Put name v) = tree_of name trees ≡ None
HasNoTree trees (Batch puts) = list_any (λ p. is_some (tree_of p.name trees)) puts ≡ false
HasNoTree trees (Delete name cycle) = tree_of name trees ≡ None
HasNoTree trees (Get name cycle version) = tree_of name trees ≡ None
HasNoTree trees other = Unit {0}

abbrev pub AnyWorkCanBeDone : List ClassDef → List KeyHead → List KeptTree → Command → AnyWork → Type 0
AnyWorkCanBeDone classes heads trees c (Item work) = WorkCanBeDone classes heads c work × HasNoTree trees c
AnyWorkCanBeDone classes heads trees c (OfTree work) = TreeWorkCanBeDone classes heads trees c work

-- what is accepted can be done
abbrev pub IsSoundWithTrees : List ClassDef → List KeyHead → List KeptTree → Command → JudgedWithTrees → Type 0
IsSoundWithTrees classes heads trees c (Refused refusal) = Unit {0}
IsSoundWithTrees classes heads trees c (Accepted work) = AnyWorkCanBeDone classes heads trees c work

-- ---- a row whose entries were made, or couldn't be made

-- why a row has no entries in these branches
abbrev pub row_fault : List ClassDef → List BranchDef → Row → Option EntryFault
row_fault classes branches row = if row_fits classes branches row then (if has_long_entry classes branches row then Some TooLarge else None) else Some BadRow

-- this is why the row has no entries in the branches of the tree of the name, if it has none
abbrev pub IsRowFault : State → List ℕ → Row → Option EntryFault → Type 0
IsRowFault m name row fault = option_and_then (λ t. row_fault m.classes t.branches row) (get m.trees name) ≡ fault

-- It is the state's first refusal of the fill, if there is one: none of those before it holds, as it is where the fill was
-- accepted, and this is why the row has no entries.
abbrev pub IsRowJudgement : NewRow → Option EntryFault → Option Refusal → Type 0
IsRowJudgement r fault refusal = (m : State) (name : List ℕ) (row : Row) → refusal_of m (Fill name row) None ≡ refused_by_object m (Fill name row)
    → IsTreeWorkOf m (Fill name row) (Filling r) → IsRowFault m name r.row fault → refusal ≡ refusal_of m (Fill name row) None

-- ---- laws

-- keys that stand for a state without trees
abbrev pub KeysOfObjectsAreItems : Type 0
KeysOfObjectsAreItems = (heads : List KeyHead) (m : State) → AreKeysOfState heads m → AreItemsOfState heads [] m

-- trees in order of names, each with one key
pub record HaveKeys (trees : List KeptTree) (heads : List KeyHead) : Type 0 where
  pub ordered : AreTreesOrdered trees
  pub keys : map (λ h. h.name) (filter (is_tree_key trees) heads) ≡ map (λ t. t.name) trees

-- Keys of any table and trees that have keys among them stand for a state, whatever the classes are.
abbrev pub ItemsHaveStates : Type 0
ItemsHaveStates = (classes : List ClassDef) (heads : List KeyHead) (trees : List KeptTree) → AreOrdered heads → HaveKeys trees heads
    → (m : State) × (m.classes ≡ classes) × AreItemsOfState heads trees m

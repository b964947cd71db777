-- A state with an object, a tree and a class, and why commands are refused there.
use Rattle.std.proofs.Common.{◌≡◌, ℕ, pos, List, [], ◌∷◌, Some, None, refl}
use Rattle.std.specs.{Prelude.{codes}, FinMap.{entries-from_sorted, from_sorted, get-from_sorted}}
use Rattle.rio_num.specs.Word.{name_order}
use Rattle.rio_leaf.specs.{declared.branch.BranchDef.{BranchDef}, declared.branch.Shape.TheVariants.{Leaves}, declared.leaf.Dim.TheVariants.{One}}
use Rattle.rio_format.specs.{declared.class.ClassDef.{ClassDef}, declared.kind.Kind.TheVariants.{Pointer, Inline}, declared.value.Value.{Value, Null}, Bodies.{member}}
use Rattle.rio_model.specs.Declaring.{reaches}
use Rattle.rio_machine.specs.State.{NameAndCycle, State, Tree, item_order, next_cycle}
use Rattle.rio_machine.specs.declared.command.Command.TheVariants.{Class, Put, Batch, Delete, Tree as MakeTree, Fill, Save}
use Rattle.rio_machine.specs.declared.command.PutItem.{PutItem}
use Rattle.rio_machine.specs.declared.refusal.Refusal.TheVariants.{BadName, NoSuchName, NoSuchCycle, NameIsTree, NotATree, NameInUse, SameVersion, HoldsItself, BadRow, CycleLimit}
use Rattle.rio_step.specs.Refusing.{items_put, refusal_of}

-- ---- the state

abbrev branches : List BranchDef
branches = record { name = codes "x"; shape = Leaves (record { name = codes "x"; letter = 73; dim = One } ∷ []) } ∷ []

abbrev node_class : ClassDef
node_class = record { name = codes "Node"; version = pos 1; sum = 0; bases = []; members = member (codes "next") (Pointer (codes "Node")) ∷ [] }

abbrev objects : List (NameAndCycle × Value)
objects = ((codes "s", 1), Null) ∷ []

abbrev trees : List (List ℕ × Tree)
trees = (codes "T", record { cycle = 1; branches = branches; saved = []; pending = [] }) ∷ []

abbrev some_state : State
some_state = record { classes = node_class ∷ []; objects = from_sorted objects; trees = from_sorted trees }

-- ---- refusals

abbrev null_put : List ℕ → PutItem
null_put name = record { name = name; value = Null }

class_list_name : refusal_of some_state (Put (codes "StreamerInfo") Null) None ≡ Some BadName
unfolding refusal_of
class_list_name = refl

no_such_name : refusal_of some_state (Delete (codes "x") 1) None ≡ Some NoSuchName
unfolding refusal_of
no_such_name = rw (entries-from_sorted item_order objects tt, get-from_sorted name_order trees (codes "x") tt) refl

no_such_cycle : refusal_of some_state (Delete (codes "s") 9) None ≡ Some NoSuchCycle
unfolding refusal_of
no_such_cycle = rw (entries-from_sorted item_order objects tt, get-from_sorted item_order objects (codes "s", 9) tt, get-from_sorted name_order trees (codes "s") tt) refl

name_is_tree : refusal_of some_state (Put (codes "T") Null) None ≡ Some NameIsTree
unfolding refusal_of
name_is_tree = rw (get-from_sorted name_order trees (codes "T") tt) refl

-- one of the puts of a batch is refused, and so is the batch
batch_name_is_tree : refusal_of some_state (Batch (null_put (codes "a") ∷ null_put (codes "T") ∷ [])) None ≡ Some NameIsTree
unfolding refusal_of
batch_name_is_tree = rw (get-from_sorted name_order trees (codes "a") tt, get-from_sorted name_order trees (codes "T") tt) refl

not_a_tree : refusal_of some_state (Fill (codes "s") []) None ≡ Some NotATree
unfolding refusal_of
not_a_tree = rw (entries-from_sorted item_order objects tt) refl

name_in_use : refusal_of some_state (MakeTree (codes "s") branches) None ≡ Some NameInUse
unfolding refusal_of
name_in_use = rw (entries-from_sorted item_order objects tt) refl

same_version : refusal_of some_state (Class node_class) None ≡ Some SameVersion
unfolding refusal_of
same_version = refl

holding_class : ClassDef
holding_class = record { name = codes "A"; version = pos 1; sum = 0; bases = []; members = member (codes "x") (Inline (codes "A")) ∷ [] }

holds_itself : refusal_of some_state (Class holding_class) None ≡ Some HoldsItself
unfolding refusal_of holding_class reaches
holds_itself = refl

bad_row : refusal_of some_state (Fill (codes "T") []) None ≡ Some BadRow
unfolding refusal_of
bad_row = rw (entries-from_sorted item_order objects tt, get-from_sorted name_order trees (codes "T") tt) refl

abbrev last_trees : List (List ℕ × Tree)
last_trees = (codes "T", record { cycle = 32767; branches = branches; saved = []; pending = [] }) ∷ []

-- a tree in the last cycle
abbrev last_state : State
last_state = record { classes = []; objects = from_sorted objects; trees = from_sorted last_trees }

last_save : refusal_of last_state (Save (codes "T")) None ≡ Some CycleLimit
unfolding refusal_of
last_save = rw (entries-from_sorted item_order objects tt, get-from_sorted name_order last_trees (codes "T") tt) refl

-- ---- accepted

accepted_save : refusal_of some_state (Save (codes "T")) None ≡ None
unfolding refusal_of
accepted_save = rw (entries-from_sorted item_order objects tt, get-from_sorted name_order trees (codes "T") tt) refl

next_cycle_there : next_cycle some_state (codes "s") ≡ 2
next_cycle_there = rw (entries-from_sorted item_order objects tt) refl

-- the cycles of a batch are counted within it
batch_cycles : items_put some_state [] (null_put (codes "s") ∷ null_put (codes "t") ∷ null_put (codes "s") ∷ []) ≡ (codes "s", 2) ∷ (codes "t", 1) ∷ (codes "s", 3) ∷ []
batch_cycles = rw (entries-from_sorted item_order objects tt) refl

next_cycle_new : next_cycle some_state (codes "t") ≡ 1
next_cycle_new = rw (entries-from_sorted item_order objects tt) refl

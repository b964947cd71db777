-- What a command does to a state, and what is replied.
use Rattle.std.specs.Prelude.{ℕ, ◌+◌, List, [], ◌∷◌, ◌++◌, length, map, Option, Some, None, unwrap_or, ℤ, Ok, Err, if◌then◌else◌}
use Rattle.std.specs.{FinMap.{entries, from_entries, get, insert, remove}, Option.{option_map_or}}
use Rattle.rio_leaf.specs.declared.branch.BranchDef.{BranchDef}
use Rattle.rio_format.specs.{declared.class.Base.{Base}, declared.value.Value.{Value, Null}}
use Rattle.rio_machine.specs.State.{NameAndCycle, Row, State, Tree, item_order, names_tree, next_cycle}
use Rattle.rio_machine.specs.declared.command.Command.{Command, TheVariants.{Bad, Class, Put, Batch, Delete, Tree as MakeTree, Fill, Save, Get, Scan, Ls}}
use Rattle.rio_machine.specs.declared.command.PutItem.{PutItem}
use Rattle.rio_machine.specs.{declared.command.Outcome.{Outcome, TheVariants.{Accepted, Refused}}, declared.refusal.Refusal.{Refusal, TheVariants.{BadLine}}}
use Rattle.rio_model.specs.Mapping.{Mapped}
use Rattle.rio_step.specs.Refusing.{FullMark, items_put, meant_cycle, meant_object, object_class, refusal_of, rows_of_tree, rows_seen_in, seen_in, fill_row, put_value, with_class}

-- ---- states

-- the state with an object more, in the next cycle of its name
abbrev pub with_object : State → List ℕ → Value → State
with_object m name v = record m { objects = insert m.objects (name, next_cycle m name) (put_value m v) }

-- the state with the objects of a batch, one put behind the other
abbrev pub with_objects : State → List PutItem → State
with_objects m [] = m
with_objects m (p ∷ ps) = with_objects (with_object m p.name p.value) ps

-- the state with a changed tree, if there is one of the name
abbrev pub with_tree : State → List ℕ → (Tree → Tree) → State
with_tree m name change = option_map_or (λ t. record m { trees = insert m.trees name (change t) }) (get m.trees name) m

abbrev pub new_tree : List BranchDef → Tree
new_tree branches = record { cycle = 1; branches = branches; saved = []; pending = [] }

abbrev pub tree_filled : Row → Tree → Tree
tree_filled row t = record t { pending = t.pending ++ row ∷ [] }

-- the pending rows stand behind the saved ones, and the cycle is one higher
abbrev pub tree_saved : Tree → Tree
tree_saved t = record { cycle = t.cycle + 1; branches = t.branches; saved = t.saved ++ t.pending; pending = [] }

-- the state without an object, or without a tree and all its rows
abbrev pub without_item : State → List ℕ → ℕ → State
without_item m name cycle =
    if names_tree m name then record m { trees = remove m.trees name } else record m { objects = remove m.objects (name, cycle) }

-- the state behind a command that isn't refused
abbrev pub state_behind : State → Command → State
state_behind m (Bad line place) = m
state_behind m (Class class) = record m { classes = with_class m.classes class }
state_behind m (Put name v) = with_object m name v
state_behind m (Batch puts) = with_objects m puts
state_behind m (Delete name cycle) = without_item m name cycle
state_behind m (MakeTree name branches) = record m { trees = insert m.trees name (new_tree branches) }
state_behind m (Fill name row) = with_tree m name (tree_filled (fill_row m row))
state_behind m (Save name) = with_tree m name tree_saved
state_behind m (Get name cycle version) = m
state_behind m (Scan name class) = m
state_behind m Ls = m

-- ---- replies

-- what is listed of an item: the class of an object, or how many rows of a tree are saved and pending
pub data Listed : Type 0 where
  object_listed : List ℕ → Listed
  tree_listed : ℕ → ℕ → Listed

pub data Reply : Type 0 where
  -- the class and its version
  class_declared : List ℕ → ℤ → Reply
  -- the name and cycle of an object, of what is deleted, and of a tree
  object_put : List ℕ → ℕ → Reply
  item_deleted : List ℕ → ℕ → Reply
  -- the names and cycles of the objects of a batch
  objects_put : List NameAndCycle → Reply
  tree_made : List ℕ → ℕ → Reply
  -- the tree and the number of the entry, counted from 0
  row_added : List ℕ → ℕ → Reply
  -- the tree, its new cycle and how many entries it has
  rows_saved : List ℕ → ℕ → ℕ → Reply
  object_told : List ℕ → ℕ → Value → Reply
  rows_told : List ℕ → List Row → Reply
  items_listed : List (NameAndCycle × Listed) → Reply
  refused : Refusal → Reply

abbrev pub listed_object : NameAndCycle × Value → NameAndCycle × Listed
listed_object e = (e.0, object_listed (unwrap_or (object_class e.1) []))

abbrev pub listed_tree : List ℕ × Tree → NameAndCycle × Listed
listed_tree e = ((e.0, e.1.cycle), tree_listed (length e.1.saved) (length e.1.pending))

-- all objects and trees, by name, and of one name the greatest cycle first
abbrev pub items_of : State → List (NameAndCycle × Listed)
items_of m = entries (from_entries {R = item_order} (map listed_object (entries m.objects) ++ map listed_tree (entries m.trees)))

-- what is had; where something can't be had the command is refused
abbrev pub or_unmapped : {A : Type 0} → A → Mapped A → A
or_unmapped x (Ok y) = y
or_unmapped x (Err e) = x

-- the object that a get tells, in the version that is asked
abbrev pub told_value : State → List ℕ → Option ℕ → Option ℤ → Value
told_value m name cycle version = let v = unwrap_or (meant_object m name cycle) Null in or_unmapped v (seen_in m.classes version v)

-- the rows that a scan tells
abbrev pub told_rows : State → List ℕ → Option Base → List Row
told_rows m name class =
    let rows = option_map_or rows_of_tree (get m.trees name) [] in or_unmapped rows (rows_seen_in m.classes class rows)

-- what is replied to a fill and to a save
abbrev pub row_reply : List ℕ → Tree → Reply
row_reply name t = row_added name (length (rows_of_tree t))

abbrev pub save_reply : List ℕ → Tree → Reply
save_reply name t = rows_saved name (t.cycle + 1) (length (rows_of_tree t))

abbrev pub no_tree : Tree
no_tree = new_tree []

-- the reply to a command that isn't refused
abbrev pub reply_to : State → Command → Reply
reply_to m (Bad line place) = refused (BadLine line place)
reply_to m (Class class) = class_declared class.name class.version
reply_to m (Put name v) = object_put name (next_cycle m name)
reply_to m (Batch puts) = objects_put (items_put m [] puts)
reply_to m (Delete name cycle) = item_deleted name cycle
reply_to m (MakeTree name branches) = tree_made name 1
reply_to m (Fill name row) = row_reply name (unwrap_or (get m.trees name) no_tree)
reply_to m (Save name) = save_reply name (unwrap_or (get m.trees name) no_tree)
reply_to m (Get name cycle version) = object_told name (meant_cycle m name cycle) (told_value m name cycle version)
reply_to m (Scan name class) = rows_told name (told_rows m name class)
reply_to m Ls = items_listed (items_of m)

-- ---- steps

pub record Stepped : Type 0 where
  pub state : State
  pub reply : Reply

abbrev pub by_refusal : State → Command → Option Refusal → Stepped
by_refusal m c (Some refusal) = record { state = m; reply = refused refusal }
by_refusal m c None = record { state = state_behind m c; reply = reply_to m c }

-- The state behind a command and the reply to it: a refused one changes nothing. The mark tells that there is no room.
unfoldable pub step : State → Command → Option FullMark → Stepped
step m c mark = by_refusal m c (refusal_of m c mark)

-- what became of the command
abbrev pub outcome_of : Reply → Outcome
outcome_of (refused refusal) = Refused refusal
outcome_of other = Accepted

-- Keys and trees, as a session keeps them, that stand for the objects and trees of a state.
use Rattle.std.specs.{Prelude.{◌≡◌, ℕ, List, length, map, Bool, not, Option, Some, None, is_some}, FinMap.{entries}, List.{filter}}
use Rattle.rio_key.specs.declared.head.KeyHead.{KeyHead}
use Rattle.rio_dir.specs.Table.{AreOrdered}
use Rattle.rio_tree_table.specs.{Table.{tree_of}, declared.table.KeptTree.{KeptTree}}
use Rattle.rio_machine.specs.State.{NameAndCycle, State, Tree}
use Rattle.rio_step.specs.{ItemKeys.{told_by_key}, Step.{Listed, listed_object, object_listed, tree_listed}}

-- a key under the name of a tree is the tree's
abbrev pub is_tree_key : List KeptTree → KeyHead → Bool
is_tree_key trees h = is_some (tree_of h.name trees)

abbrev pub is_object_key : List KeptTree → KeyHead → Bool
is_object_key trees h = not (is_tree_key trees h)

-- the name and cycle of a key, and those of a tree
abbrev pub item_of_key : KeyHead → NameAndCycle
item_of_key h = (h.name, h.cycle)

abbrev pub item_of_tree : List ℕ × Tree → NameAndCycle
item_of_tree e = (e.0, e.1.cycle)

-- what is kept of a tree beside its key
abbrev pub kept_tree : List ℕ × Tree → KeptTree
kept_tree e = record { name = e.0; branches = e.1.branches; saved = length e.1.saved; pending = length e.1.pending }

-- These keys, in the order of the key list, are those of the state's objects and trees: the keys under names of trees have
-- the trees' cycles, and the others tell what is listed of the objects. These trees are the state's, in order of names. So no
-- object has the name of a tree.
pub record AreItemsOfState (heads : List KeyHead) (trees : List KeptTree) (m : State) : Type 0 where
  pub ordered : AreOrdered heads
  pub objects : map told_by_key (filter (is_object_key trees) heads) ≡ map listed_object (entries m.objects)
  pub cycles : map item_of_key (filter (is_tree_key trees) heads) ≡ map item_of_tree (entries m.trees)
  pub kept : trees ≡ map kept_tree (entries m.trees)

-- what is listed of the item of a key: of a tree how many rows are saved and pending
abbrev pub listed_by : Option KeptTree → KeyHead → Listed
listed_by None h = object_listed h.class
listed_by (Some t) h = tree_listed t.saved t.pending

abbrev pub told_of_item : List KeptTree → KeyHead → NameAndCycle × Listed
told_of_item trees h = (item_of_key h, listed_by (tree_of h.name trees) h)

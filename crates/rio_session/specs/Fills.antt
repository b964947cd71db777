-- What a session keeps of a tree: its name, the baskets that were written of it, and the rows that are pending. The header is not kept
-- beside that: what it says follows from it.
use Rattle.std.specs.{Prelude.{◌≡◌, ℕ, zero, suc, List, [], ◌∷◌, length, map, Bool, true, not, ◌==◌, nat_lt, None, if◌then◌else◌}, List.{filter, find, flat_map}, Option.{option_map_or}, Str.{bytes_eq}, Set.{remove_key}}
use Rattle.rio_tree.specs.{Header.{has_offsets}, declared.basket_at.BasketAt.{BasketAt}, declared.head.Branch.{Branch}, declared.head.TreeHead.{TreeHead}}
use Rattle.rio_tree_table.specs.declared.table.KeptTree.{KeptTree}
use Rattle.rio_fill.specs.{Fill.{BranchFill, TreeFill, defs_of, fill_of}, Room.{without_room}}
use Rattle.rio_effect.specs.TreeChanges.{PutBaskets}
use Rattle.rio_recover.specs.{TreeTable.{is_name_before}, declared.trees.TreeAt.{TreeAt}}

pub record FilledTree : Type 0 where
  pub name : List ℕ
  pub fill : TreeFill

-- a tree but for the room that was made
abbrev pub bare : TreeFill → TreeFill
bare t = record t { branches = map without_room t.branches }

abbrev pub bare_tree : FilledTree → FilledTree
bare_tree t = record t { fill = bare t.fill }

-- what a session begins with for a tree with this header
abbrev pub filled_tree_of : TreeAt → FilledTree
filled_tree_of t = record { name = t.name; fill = fill_of t.head }

-- ---- what follows from it

-- the baskets of a branch that the header names: those whose entries are saved
abbrev pub saved_baskets : ℕ → BranchFill → List BasketAt
saved_baskets saved b = filter (λ at. nat_lt at.first saved) b.baskets

-- and those that were put since
abbrev pub put_baskets : ℕ → BranchFill → List BasketAt
put_baskets saved b = filter (λ at. not (nat_lt at.first saved)) b.baskets

-- what the header says of a branch, and the header
abbrev pub branch_in_header : ℕ → BranchFill → Branch
branch_in_header saved b = record {
  def = b.def;
  class_version = b.class_version;
  entries = saved;
  offsets = has_offsets b.def.shape;
  baskets = saved_baskets saved b;
  counted_by = b.counted_by;
  refused = None;
}

abbrev pub header_of : TreeFill → TreeHead
header_of t = record { entries = t.saved; branches = map (branch_in_header t.saved) t.branches }

abbrev pub tree_at_of : FilledTree → TreeAt
tree_at_of t = record { name = t.name; head = header_of t.fill }

-- what is kept of the tree as commands are judged by it
abbrev pub kept_tree_of : FilledTree → KeptTree
kept_tree_of t = record { name = t.name; branches = defs_of t.fill.branches; saved = t.fill.saved; pending = t.fill.pending }

-- where all baskets of a tree begin that were written: those that the header names, and those that were put since
abbrev pub places_of_fill : TreeFill → List ℕ
places_of_fill t = flat_map (λ b. map (λ at. at.seek) b.baskets) t.branches

abbrev pub places_of_trees : List FilledTree → List ℕ
places_of_trees trees = flat_map (λ t. places_of_fill t.fill) trees

-- Branch by branch, the baskets that were put since the last save. Where no rows are pending there are none.
abbrev pub put_of : TreeFill → List (List BasketAt)
put_of t = if t.pending == 0 then [] else map (put_baskets t.saved) t.branches

-- ---- trees in order of names

-- the trees, and for how many more there is room
pub record FilledRoom : Type 0 where
  pub trees : List FilledTree
  pub spare : ℕ

abbrev pub is_tree_of : List ℕ → FilledTree → Bool
is_tree_of name t = bytes_eq t.name name

abbrev pub put_in : List FilledTree → PutBaskets
put_in trees name = option_map_or (λ t. put_of t.fill) (find (is_tree_of name) trees) []

-- the name of each of these comes after this one
abbrev pub AreAfterName : List ℕ → List FilledTree → Type 0
AreAfterName name [] = Unit {0}
AreAfterName name (t ∷ ts) = (is_name_before name t.name ≡ true) × AreAfterName name ts

abbrev pub AreNamesOrdered : List FilledTree → Type 0
AreNamesOrdered [] = Unit {0}
AreNamesOrdered (t ∷ ts) = AreAfterName t.name ts × AreNamesOrdered ts

-- with one more in its place, and without that of a name
abbrev pub with_filled : FilledTree → List FilledTree → List FilledTree
with_filled t [] = t ∷ []
with_filled t (u ∷ us) = if is_name_before u.name t.name then u ∷ with_filled t us else t ∷ u ∷ us

abbrev pub without_filled : List ℕ → List FilledTree → List FilledTree
without_filled name trees = remove_key (is_tree_of name) trees

-- with the tree at a number changed, and with that of a name
abbrev pub changed_tree : ℕ → (TreeFill → TreeFill) → List FilledTree → List FilledTree
changed_tree at change [] = []
changed_tree zero change (t ∷ ts) = record t { fill = change t.fill } ∷ ts
changed_tree (suc at) change (t ∷ ts) = t ∷ changed_tree at change ts

abbrev pub filled_if : List ℕ → (TreeFill → TreeFill) → FilledTree → FilledTree
filled_if name change t = if is_tree_of name t then record t { fill = change t.fill } else t

abbrev pub with_change : List ℕ → (TreeFill → TreeFill) → List FilledTree → List FilledTree
with_change name change trees = map (filled_if name change) trees

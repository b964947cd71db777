-- The table of trees: in order of names, no two of one name.
use Rattle.std.specs.Prelude.{◌≡◌, ℕ, Bool, true, List, [], ◌∷◌, map, Option, Some, None, if◌then◌else◌}
use Rattle.std.specs.{List.{find}, Ordering.{is_lt}, Set.{remove_key}, Str.{bytes_eq}}
use Rattle.rio_num.specs.Word.{name_order}
use Rattle.rio_tree_table.specs.declared.table.KeptTree.{KeptTree}

-- trees in order, and for how many more there is room
pub record TableRoom : Type 0 where
  pub trees : List KeptTree
  pub spare : ℕ

abbrev pub is_of_name : List ℕ → KeptTree → Bool
is_of_name name t = bytes_eq t.name name

-- the name of a tree comes before a name
abbrev pub is_before : List ℕ → KeptTree → Bool
is_before name t = is_lt (name_order t.name name)

-- a name comes before that of each of these
abbrev pub AreBehind : List ℕ → List KeptTree → Type 0
AreBehind name [] = Unit {0}
AreBehind name (t ∷ ts) = (is_lt (name_order name t.name) ≡ true) × AreBehind name ts

-- the names strictly rise
abbrev pub AreOrdered : List KeptTree → Type 0
AreOrdered [] = Unit {0}
AreOrdered (t ∷ ts) = AreBehind t.name ts × AreOrdered ts

-- the tree of a name
abbrev pub tree_of : List ℕ → List KeptTree → Option KeptTree
tree_of name trees = find (is_of_name name) trees

-- a tree that passes a test
abbrev pub if_matching : (KeptTree → Bool) → Option KeptTree → Option KeptTree
if_matching test None = None
if_matching test (Some t) = if test t then Some t else None

-- the trees with one more in its place
abbrev pub with_tree : KeptTree → List KeptTree → List KeptTree
with_tree t [] = t ∷ []
with_tree t (u ∷ us) = if is_before t.name u then u ∷ with_tree t us else t ∷ u ∷ us

-- the trees without that of a name
abbrev pub without_tree : List ℕ → List KeptTree → List KeptTree
without_tree name trees = remove_key (is_of_name name) trees

-- a tree with other numbers of rows
abbrev pub renumbered : ℕ → ℕ → KeptTree → KeptTree
renumbered saved pending t = record t { saved = saved; pending = pending }

abbrev pub renumbered_if : List ℕ → ℕ → ℕ → KeptTree → KeptTree
renumbered_if name saved pending t = if is_of_name name t then renumbered saved pending t else t

-- the trees, of which that of a name has other numbers of rows
abbrev pub with_rows : List ℕ → ℕ → ℕ → List KeptTree → List KeptTree
with_rows name saved pending trees = map (renumbered_if name saved pending) trees

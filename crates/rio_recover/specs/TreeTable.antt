-- The trees of a file in order of their names.
use Rattle.std.specs.{Prelude.{◌≡◌, ℕ, List, [], ◌∷◌, Bool, true, false, Option, Some, None, if◌then◌else◌}, Cmp.Lexicographic.{slice_cmp}}
use Rattle.std.specs.{Ordering.{nat_cmp}, Set.{remove_key}, Str.{bytes_eq}}
use Rattle.rio_num.specs.Reading.{some_if}
use Rattle.rio_dir.specs.Table.{first_by}
use Rattle.rio_recover.specs.declared.trees.TreeAt.{TreeAt}

abbrev pub has_name : List ℕ → TreeAt → Bool
has_name name t = bytes_eq t.name name

-- the tree, if it has the name
abbrev pub if_of_name : List ℕ → TreeAt → Option TreeAt
if_of_name name t = some_if (has_name name t) t

-- one name comes before another: bytes ascending
abbrev pub is_name_before : List ℕ → List ℕ → Bool
is_name_before name other = first_by (slice_cmp nat_cmp name other) false

-- the tree's name comes before this one
abbrev pub is_tree_before : List ℕ → TreeAt → Bool
is_tree_before name t = is_name_before t.name name

-- the name of each of these trees comes after this one
abbrev pub AreAfter : List ℕ → List TreeAt → Type 0
AreAfter name [] = Unit {0}
AreAfter name (t ∷ ts) = (is_name_before name t.name ≡ true) × AreAfter name ts

-- each comes after those before it, so no two have the same name
abbrev pub AreInOrder : List TreeAt → Type 0
AreInOrder [] = Unit {0}
AreInOrder (t ∷ ts) = AreAfter t.name ts × AreInOrder ts

-- the trees with one more in its place
abbrev pub with_tree : TreeAt → List TreeAt → List TreeAt
with_tree t [] = t ∷ []
with_tree t (u ∷ us) = if is_tree_before t.name u then u ∷ with_tree t us else t ∷ u ∷ us

-- the trees without that of a name
abbrev pub without_tree : List ℕ → List TreeAt → List TreeAt
without_tree name trees = remove_key (has_name name) trees

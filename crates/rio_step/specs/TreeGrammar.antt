-- The branches of a tree as texts are read. No blanks stand within a branch.
use Rattle.std.specs.Prelude.{ℕ, zero, suc, List, [], ◌∷◌, ◌++◌, length, codes, Option, option_and_then, Ok, Bool, false, ◌&&◌, ◌||◌, not, if◌then◌else◌}
use Rattle.std.specs.{Option.{option_map, option_map_or, option_or}, Str.{bytes_eq}}
use Rattle.rio_num.specs.{At.{At}, Reading.{◌>>=◌}, Word.{is_name_text}}
use Rattle.rio_token.specs.Marks.{closing_bracket, colon, equals_sign, opening_bracket, slash}
use Rattle.rio_token.specs.{Reading.{Read, is_end, marked, next_word, some_if, taken_at, word_that_at}, Tokens.{behind, is_glued, next_at}}
use Rattle.rio_token.specs.Words.{num_between_of}
use Rattle.rio_leaf.specs.{declared.branch.BranchDef.{BranchDef}, declared.branch.Shape.{Shape, TheVariants.{Leaves, Class}}, Reading.{letter_in}}
use Rattle.rio_leaf.specs.{declared.leaf.Dim.{Dim, TheVariants.{One, Fixed, Counted}}, declared.leaf.Leaf.{Leaf}}
use Rattle.rio_leaf.specs.{Leaves.{has_counting_leaf, has_leaf}, Stated.{all_leaves, has_branch}}

-- ---- tokens without blanks before them

-- the next word, if it follows directly
abbrev pub glued_word : At → Option (List ℕ)
glued_word s = option_and_then (λ word. some_if (is_glued s) word) (next_word s)

-- such a word that says something
unfoldable pub glued_at : {A : Type 0} → (List ℕ → Option A) → At → Read A
glued_at says s = taken_at (option_and_then says (glued_word s)) s

-- this byte of punctuation follows directly
abbrev pub is_glued_mark : ℕ → At → Bool
is_glued_mark mark s = is_glued s && marked mark s

unfoldable pub glued_mark_at : ℕ → At → Read (Unit {0})
glued_mark_at mark s = taken_at (some_if (is_glued_mark mark s) tt) s

-- ---- items one behind the other

-- behind some items further ones, while one begins and so much of the text is left
unfoldable pub further_at : {A : Type 0} → ℕ → (At → Bool) → (List A → At → Read A) → List A → At → Read (List A)
further_at zero begins item items s = Ok (items, s)
further_at (suc left) begins item items s =
    if begins s then (item items s >>= λ next. further_at left begins item (items ++ next.0 ∷ []) next.1) else Ok (items, s)

-- at least one item, each read in knowledge of those before it
unfoldable pub items_at : {A : Type 0} → (At → Bool) → (List A → At → Read A) → At → Read (List A)
items_at begins item s = item [] s >>= λ first. further_at (length first.1.rest) begins item (first.0 ∷ []) first.1

-- ---- leaves, in knowledge of all leaves before them in the tree

-- a name that no leaf has yet
abbrev pub is_new_leaf : List Leaf → List ℕ → Bool
is_new_leaf before word = is_name_text word && not (has_leaf before word)

-- how many values there are, or which leaf before counts them
unfoldable pub leaf_dimension : List Leaf → List ℕ → Option Dim
leaf_dimension before word =
    option_or (option_map Fixed (num_between_of 2 100000 word)) (some_if (is_name_text word && has_counting_leaf before word) (Counted word 1))

-- what stands in square brackets, behind the opening one
abbrev pub leaf_size_at : List Leaf → At → Read Dim
leaf_size_at before s = do
  dim ← glued_at (leaf_dimension before) s
  closed ← glued_mark_at closing_bracket dim.1
  Ok (dim.0, closed.1)

-- a dimension, if there is one
unfoldable pub leaf_dim_at : List Leaf → At → Read Dim
leaf_dim_at before s = if is_glued_mark opening_bracket s then leaf_size_at before (behind s) else Ok (One, s)

unfoldable pub tree_leaf_at : List Leaf → At → Read Leaf
tree_leaf_at before s = do
  name ← glued_at (λ word. some_if (is_new_leaf before word) word) s
  dim ← leaf_dim_at before name.1
  passed ← glued_mark_at slash dim.1
  letter ← glued_at (letter_in dim.0) passed.1
  Ok (record { name = name.0; letter = letter.0; dim = dim.0 }, letter.1)

-- a leaf of a branch: behind others with a colon before it
unfoldable pub branch_leaf_at : List Leaf → List Leaf → At → Read Leaf
branch_leaf_at before [] s = tree_leaf_at before s
branch_leaf_at before (leaf ∷ own) s = do
  passed ← glued_mark_at colon s
  tree_leaf_at (before ++ leaf ∷ own) passed.1

unfoldable pub branch_leaves_at : List Leaf → At → Read Shape
branch_leaves_at before s = do
  leaves ← items_at (is_glued_mark colon) (branch_leaf_at before) s
  Ok (Leaves leaves.0, leaves.1)

-- ---- branches

-- the word `class`
abbrev pub comes_class : At → Bool
comes_class s = option_map_or (λ word. bytes_eq word (codes "class")) (glued_word s) false

-- the class of objects, behind the word `class`
unfoldable pub branch_class_at : At → Read Shape
branch_class_at s = do
  passed ← glued_mark_at colon s
  class ← glued_at (λ word. some_if (is_name_text word) word) passed.1
  Ok (Class class.0, class.1)

-- A leaf may have the name `class`, if no colon stands behind it and no leaf before has the name.
abbrev pub opens_class : List Leaf → At → Bool
opens_class before s = comes_class s && (is_glued_mark colon (behind s) || has_leaf before (codes "class"))

abbrev pub shape_at : List Leaf → At → Read Shape
shape_at before s = if opens_class before s then branch_class_at (behind s) else branch_leaves_at before s

-- a name that no branch has yet
abbrev pub is_new_branch : List BranchDef → List ℕ → Bool
is_new_branch before word = is_name_text word && not (has_branch before word)

-- a branch behind others
unfoldable pub branch_at : List BranchDef → At → Read BranchDef
branch_at before s = do
  name ← word_that_at (is_new_branch before) s
  passed ← glued_mark_at equals_sign name.1
  shape ← shape_at (all_leaves before) passed.1
  Ok (record { name = name.0; shape = shape.0 }, shape.1)

-- the end doesn't come yet
abbrev pub goes_on : At → Bool
goes_on s = not (is_end (next_at s).token)

-- at least one branch
abbrev pub branches_at : At → Read (List BranchDef)
branches_at = items_at goes_on branch_at

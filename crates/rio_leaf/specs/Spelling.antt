-- Which texts spell which lists of leaves, by cases on the leaves. Each list has one text, without blanks, and it is
-- spelled where each leaf may stand behind those before it (`Leaves`).
--
--   leaves = leaf {":" leaf}
--   leaf   = NAME ["[" (NUM | NAME) "]"] "/" LETTER
use Rattle.std.specs.{Prelude.{◌≡◌, ℕ, List, [], ◌∷◌, ◌++◌, Bool, true, false, ◌&&◌, IsTrue}, Fmt.{decimal}, List.{flat_map}}
use Rattle.rio_leaf.specs.{declared.leaf.Dim.{Dim, TheVariants.{One, Fixed, Counted}}, declared.leaf.Leaf.{Leaf}, Leaves.{counts_for, is_leaf, is_taken}}
use Rattle.rio_leaf.specs.Marks.{before_dimension, before_letter, behind_dimension, between_leaves}

-- What stands in square brackets behind a leaf's name, if something does. How many values there are for each that a counter counts isn't told: one.
abbrev pub text_of_dim : Dim → List ℕ
text_of_dim One = []
text_of_dim (Fixed n) = before_dimension ∷ (decimal n ++ behind_dimension ∷ [])
text_of_dim (Counted counter times) = before_dimension ∷ (counter ++ behind_dimension ∷ [])

-- a leaf: its name, its dimension and its letter
abbrev pub text_of_leaf : Leaf → List ℕ
text_of_leaf leaf = leaf.name ++ (text_of_dim leaf.dim ++ before_letter ∷ leaf.letter ∷ [])

-- leaves, with a colon before each but the first
abbrev pub text_of_leaves : List Leaf → List ℕ
text_of_leaves [] = []
text_of_leaves (leaf ∷ leaves) = text_of_leaf leaf ++ flat_map (λ l. between_leaves ∷ text_of_leaf l) leaves

-- a leaf behind those before it in its branch, whatever branches stand before
abbrev pub is_leaf_behind : List Leaf → Leaf → Bool
is_leaf_behind before leaf = is_leaf (is_taken before) (counts_for before leaf.name) leaf

abbrev pub are_leaves_behind : List Leaf → List Leaf → Bool
are_leaves_behind before [] = true
are_leaves_behind before (leaf ∷ leaves) = is_leaf_behind before leaf && are_leaves_behind (before ++ leaf ∷ []) leaves

-- a leaf or more, which some tree has in one branch
abbrev pub is_leaf_list : List Leaf → Bool
is_leaf_list [] = false
is_leaf_list (leaf ∷ leaves) = are_leaves_behind [] (leaf ∷ leaves)

-- the text spells the leaves: they may stand in a list, and it is theirs
abbrev pub SpellsLeaves : List Leaf → List ℕ → Type 0
SpellsLeaves leaves text = IsTrue (is_leaf_list leaves) × (text ≡ text_of_leaves leaves)

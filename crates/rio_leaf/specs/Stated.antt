-- The branches that a tree may be declared with.
use Rattle.std.specs.{Prelude.{ℕ, List, [], ◌∷◌, ◌++◌, length, Bool, true, ◌==◌, ◌&&◌, not}, List.{flat_map, list_any}, Str.{bytes_eq}}
use Rattle.rio_num.specs.Word.{is_name_text}
use Rattle.rio_leaf.specs.{declared.branch.BranchDef.{BranchDef}, declared.branch.Shape.{Shape, TheVariants.{Leaves, Class}}, declared.leaf.Leaf.{Leaf}}
use Rattle.rio_leaf.specs.Leaves.{has_counting_leaf, has_leaf, is_leaf}

abbrev pub leaves_of : Shape → List Leaf
leaves_of (Leaves leaves) = leaves
leaves_of (Class name) = []

-- the leaves of all branches, one behind the other
abbrev pub all_leaves : List BranchDef → List Leaf
all_leaves branches = flat_map (λ b. leaves_of b.shape) branches

abbrev pub has_branch : List BranchDef → List ℕ → Bool
has_branch branches name = list_any (λ b. bytes_eq b.name name) branches

-- A leaf behind all leaves of the tree that stand before it: none of them has its name, and its counter is one of them.
abbrev pub is_stated_leaf : List Leaf → Leaf → Bool
is_stated_leaf before leaf = is_leaf (has_leaf before) (has_counting_leaf before) leaf

abbrev pub are_stated_leaves : List Leaf → List Leaf → Bool
are_stated_leaves before [] = true
are_stated_leaves before (leaf ∷ leaves) = is_stated_leaf before leaf && are_stated_leaves (before ++ leaf ∷ []) leaves

-- what a branch holds, behind these leaves: a leaf or more, or an object
abbrev pub is_stated_shape : List Leaf → Shape → Bool
is_stated_shape before (Leaves leaves) = not (length leaves == 0) && are_stated_leaves before leaves
is_stated_shape before (Class name) = is_name_text name

-- a branch behind others
abbrev pub is_stated_branch : List BranchDef → BranchDef → Bool
is_stated_branch before b =
    is_name_text b.name && not (has_branch before b.name) && is_stated_shape (all_leaves before) b.shape

abbrev pub are_branches_behind : List BranchDef → List BranchDef → Bool
are_branches_behind before [] = true
are_branches_behind before (b ∷ bs) = is_stated_branch before b && are_branches_behind (before ++ b ∷ []) bs

-- a branch or more, as a line of the script declares a tree
abbrev pub are_stated_branches : List BranchDef → Bool
are_stated_branches branches = not (length branches == 0) && are_branches_behind [] branches

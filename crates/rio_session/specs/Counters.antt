-- The branches whose leaves count those of another one.
use Rattle.std.specs.{Prelude.{ℕ, List, Bool, false, Option, ◌==◌}, Option.{option_map_or}}
use Rattle.rio_leaf.specs.{declared.branch.BranchDef.{BranchDef}, declared.leaf.Dim.{Dim, TheVariants.{Counted}}, declared.leaf.Leaf.{Leaf}}
use Rattle.rio_tree.specs.WrittenLaws.{branch_of_leaf}

-- the branch at k is the first that has a leaf of the name
abbrev pub is_branch_of_leaf : List BranchDef → ℕ → List ℕ → Bool
is_branch_of_leaf before k name = option_map_or (λ n. n == k) (branch_of_leaf before name) false

-- it has the counter of a leaf
abbrev pub counts_dim : List BranchDef → ℕ → Dim → Bool
counts_dim before k (Counted counter times) = is_branch_of_leaf before k counter
counts_dim before k other = false

abbrev pub counts_leaf : List BranchDef → ℕ → Leaf → Bool
counts_leaf before k leaf = counts_dim before k leaf.dim

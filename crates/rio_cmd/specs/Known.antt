-- The branches of a tree as they are read, and the names that are kept beside them, so that no look-up goes through these.
use Rattle.std.specs.Prelude.{◌≡◌, ℕ, List, [], ◌∷◌, ◌++◌, Ok}
use Rattle.rio_num.specs.{At.{At}, Reading.{◌>>=◌}, Word.{is_among}}
use Rattle.rio_token.specs.Reading.{Read}
use Rattle.rio_leaf.specs.{declared.branch.BranchDef.{BranchDef}, declared.branch.Shape.{Shape}, declared.leaf.Dim.{Dim}, declared.leaf.Leaf.{Leaf}}
use Rattle.rio_leaf.specs.{Leaves.{has_counting_leaf, has_leaf}, Stated.{all_leaves, has_branch}}
use Rattle.rio_step.specs.TreeGrammar.{branch_at}

-- the branches that are read whole, and the leaves of the one behind them, as far as they are read
pub record TreeSoFar : Type 0 where
  pub branches : List BranchDef
  pub own : List Leaf

-- all leaves of the tree
abbrev pub leaves_so_far : TreeSoFar → List Leaf
leaves_so_far tree = all_leaves tree.branches ++ tree.own

-- the names of the branches, of the leaves, and of the leaves that may count
pub record KnowsTree (branches : List BranchDef) (own : List Leaf) (branch_names leaf_names counters : List (List ℕ)) : Type 0 where
  pub branch : (name : List ℕ) → is_among branch_names name ≡ has_branch branches name
  pub leaf : (name : List ℕ) → is_among leaf_names name ≡ has_leaf (all_leaves branches ++ own) name
  pub counter : (name : List ℕ) → is_among counters name ≡ has_counting_leaf (all_leaves branches ++ own) name

abbrev pub leaf_of : List ℕ → ℕ → Dim → Leaf
leaf_of name letter dim = record { name = name; letter = letter; dim = dim }

abbrev pub branch_of : List ℕ → Shape → BranchDef
branch_of name shape = record { name = name; shape = shape }

abbrev pub with_leaf : TreeSoFar → Leaf → TreeSoFar
with_leaf tree leaf = record { branches = tree.branches; own = tree.own ++ leaf ∷ [] }

-- one more branch, and no leaves behind it
abbrev pub with_branch : List BranchDef → BranchDef → TreeSoFar
with_branch branches branch = record { branches = branches ++ branch ∷ []; own = [] }

-- the branches with the next one
abbrev pub more_branches_at : List BranchDef → At → Read TreeSoFar
more_branches_at before s = branch_at before s >>= λ branch. Ok (with_branch before branch.0, branch.1)

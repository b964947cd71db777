-- The earlier branches whose leaves count leaves of a branch, and what they say at an entry.
use Rattle.std.specs.{Prelude.{ℕ, ℤ, pos, List, [], ◌∷◌, map, slice_get, Option, Some, None, Bool, true, false, not, unwrap_or}, List.{list_any}}
use Rattle.rio_leaf.specs.{declared.leaf.Dim.{Dim, TheVariants.{One, Fixed, Counted}}, declared.leaf.Leaf.{Leaf}}
use Rattle.rio_tree.specs.{declared.head.Branch.{Branch}, declared.refusal.BranchRefusal.{BranchRefusal}, Header.{branch_leaves}}
use Rattle.rio_format.specs.declared.value.Value.{Value, Int}
use Rattle.rio_entry.specs.Leaves.{last_number}

-- ---- whether they are read

abbrev pub is_refused : Option (Option BranchRefusal) → Bool
is_refused None = false
is_refused (Some None) = false
is_refused (Some (Some refusal)) = true

-- Branches are refused so; none of those whose leaves count leaves of the branch is.
abbrev pub counters_are_read : List (Option BranchRefusal) → Branch → Bool
counters_are_read refused b = not (list_any (λ k. is_refused (slice_get refused k)) b.counted_by)

-- ---- what they say

-- the values of a branch, and none where there is no such branch or it isn't read
abbrev pub values_or_none : Option (List Value) → List Value
values_or_none None = []
values_or_none (Some vs) = vs

-- the number of the last leaf of a name in a branch that has these values, or what was found before
abbrev pub number_in_branch : List ℕ → Option Branch → List Value → Option ℤ → Option ℤ
number_in_branch name None vs found = found
number_in_branch name (Some b) vs found = last_number name (branch_leaves b) vs found

-- The number of the last leaf of a name in the branches of these numbers, or what was found before. The branches have such
-- values at the entry.
abbrev pub number_said : List ℕ → List Branch → List (List Value) → List ℕ → Option ℤ → Option ℤ
number_said name branches row [] found = found
number_said name branches row (k ∷ ks) found =
    number_said name branches row ks (number_in_branch name (slice_get branches k) (values_or_none (slice_get row k)) found)

-- what is counted for a leaf by leaves of these branches: 0 where it isn't counted by any
abbrev pub leaf_count : List Branch → List (List Value) → List ℕ → Leaf → Value
leaf_count branches row counters leaf = by leaf.dim
  where
    by : Dim → Value
    by One = Int (pos 0)
    by (Fixed count) = Int (pos 0)
    by (Counted counter times) = Int (unwrap_or (number_said counter branches row counters None) (pos 0))

-- what is counted for each leaf, and nothing where no branch counts any
abbrev pub counts_if_any : List ℕ → (Leaf → Value) → List Leaf → List Value
counts_if_any [] count leaves = []
counts_if_any (k ∷ ks) count leaves = map count leaves

-- what is counted for each leaf of a branch by leaves of earlier branches, which have these values at the entry
abbrev pub entry_counts : List Branch → List (List Value) → Branch → List Value
entry_counts branches row b = counts_if_any b.counted_by (leaf_count branches row b.counted_by) (branch_leaves b)

-- What the leaves of earlier branches say, by name.
use Rattle.std.specs.Prelude.{ℕ, List, [], ◌∷◌, slice_get, Option, Some, None}
use Rattle.rio_format.specs.{Bodies.{Counters}, declared.value.Value.{Value}}
use Rattle.rio_entry.specs.Leaves.{numbers_after}
use Rattle.rio_tree.specs.{Header.{branch_leaves}, declared.head.Branch.{Branch}}
use Rattle.rio_entry.specs.Counters.{values_or_none}

-- the leaves of a branch that has these values, behind others, the nearest first
abbrev pub noted_branch : Option Branch → List Value → Counters → Counters
noted_branch None vs before = before
noted_branch (Some b) vs before = numbers_after (branch_leaves b) vs before

-- those of the branches of these numbers, which have such values at the entry
abbrev pub noted_branches : List Branch → List (List Value) → List ℕ → Counters → Counters
noted_branches branches row [] before = before
noted_branches branches row (k ∷ ks) before =
    noted_branches branches row ks (noted_branch (slice_get branches k) (values_or_none (slice_get row k)) before)

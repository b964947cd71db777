-- Rows in which of the entries of some branches no values are made, but at most numbers.
use Rattle.std.specs.Prelude.{◌≡◌, ℕ, List, [], ◌∷◌, length, map, replicate, slice_get, slice_set, Option, Some, None, unwrap_or, Bool, true, false}
use Rattle.std.specs.List.{flat_map, list_any}
use Rattle.rio_format.specs.{declared.class.ClassDef.{ClassDef}, declared.value.Value.{Value}}
use Rattle.rio_entry.specs.Leaves.{number_alone}
use Rattle.rio_tree.specs.{declared.head.Branch.{Branch}, declared.refusal.BranchRefusal.{BranchRefusal}}
use Rattle.rio_entry.specs.{declared.tree_row.TreeRow.{TreeRow}, BranchRows.{values_of_branch}, Sweeps.{refusal_before, with_branch}}
use Rattle.rio_entry.specs.declared.checked.Made.{Made, TheVariants.{Whole, Numbers, Nothing}}

-- ---- which branches

-- What is made of the entries of the branch of this number, where the list says it of each branch. Of those behind its end all
-- is made.
abbrev pub made_there : List Made → ℕ → Made
made_there made k = unwrap_or (slice_get made k) Whole

abbrev pub is_nothing : Made → Bool
is_nothing Nothing = true
is_nothing other = false

-- what is made of each branch, where numbers are made of the branches of these numbers
abbrev pub with_numbers : List Made → List ℕ → List Made
with_numbers made [] = made
with_numbers made (k ∷ ks) = with_numbers (slice_set made k Numbers) ks

-- nothing of all branches but those that count leaves of one of them, and of these the numbers
abbrev pub counters_alone : List Branch → List Made
counters_alone branches = with_numbers (replicate (length branches) Nothing) (flat_map (λ b. b.counted_by) branches)

-- of each branch that counts leaves of one of these at least the numbers are made
abbrev pub CountersMade : List Made → List Branch → Type 0
CountersMade made branches =
    (k : ℕ) (b : Branch) → slice_get branches k ≡ Some b → list_any (λ j. is_nothing (made_there made j)) b.counted_by ≡ false

-- ---- rows

-- what is made of values
abbrev pub made_values : Made → List Value → List Value
made_values Whole vs = vs
made_values Numbers vs = map number_alone vs
made_values Nothing vs = []

-- what is made of the values of an entry, if it is read
abbrev pub made_of : Made → Option (List Value) → Option (List Value)
made_of made None = None
made_of made (Some vs) = Some (made_values made vs)

-- what is made of the values of each branch
abbrev pub values_made : List Made → List (List Value) → List (List Value)
values_made [] row = row
values_made (m ∷ ms) [] = []
values_made (m ∷ ms) (vs ∷ row) = made_values m vs ∷ values_made ms row

abbrev pub row_made : List Made → TreeRow → TreeRow
row_made made row = record { refusals = row.refusals; values = values_made made row.values }

-- a row with one branch more, as in a sweep, but that of its values only so much is made
abbrev pub made_one : Made → List ℕ → List ClassDef → ℕ → List Branch → TreeRow → Branch → Option BranchRefusal → TreeRow
made_one made file classes e before row b r =
    with_branch row (refusal_before row.refusals b r) (made_of made (values_of_branch file classes e before row.values b))

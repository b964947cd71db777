-- The script of a generated file: one tree of integers.
use Rattle.std.specs.Prelude.{◌≡◌, ℕ, zero, suc, ◌+◌, ◌-◌, ◌*◌, ◌/◌, ◌%◌, pos, List, [], ◌∷◌, map, codes, Option, Some, None, Bool, true, false}
use Rattle.rio_leaf.specs.{declared.branch.BranchDef.{BranchDef}, declared.branch.Shape.TheVariants.{Leaves}}
use Rattle.rio_leaf.specs.{declared.leaf.Dim.TheVariants.{One}, declared.leaf.Leaf.{Leaf}}
use Rattle.rio_machine.specs.declared.command.Command.{Command, TheVariants.{Tree as MakeTree, Fill}}
use Rattle.rio_format.specs.declared.value.Value.{Value, Int}

-- so many numbers, from the first on
unfoldable pub numbers_from : ℕ → ℕ → List ℕ
numbers_from first zero = []
numbers_from first (suc n) = first ∷ numbers_from (first + 1) n

-- ---- the tree

abbrev pub tree_name : List ℕ
tree_name = codes "G"

abbrev pub branch_count : ℕ
branch_count = 20

-- b and the two digits of its number: b00 to b19
abbrev pub branch_name : ℕ → List ℕ
branch_name j = 98 ∷ (48 + j / 10) ∷ (48 + j % 10) ∷ []

-- signed integers of four bytes, without a dimension
abbrev pub integer_leaf : List ℕ → Leaf
integer_leaf name = record { name = name; letter = 73; dim = One }

-- one leaf of the branch's name
abbrev pub generated_branch : ℕ → BranchDef
generated_branch j = record { name = branch_name j; shape = Leaves (integer_leaf (branch_name j) ∷ []) }

abbrev pub generated_branches : List BranchDef
generated_branches = map generated_branch (numbers_from 0 branch_count)

-- ---- the rows

-- what entry e has in branch j
abbrev pub generated_value : ℕ → ℕ → Value
generated_value e j = Int (pos (20 * e + j))

abbrev pub generated_row : ℕ → List Value
generated_row e = map (generated_value e) (numbers_from 0 branch_count)

-- the rows of so many entries, from this one on
abbrev pub rows_from : ℕ → ℕ → List (List Value)
rows_from first n = map generated_row (numbers_from first n)

abbrev pub generated_rows : ℕ → List (List Value)
generated_rows n = rows_from 0 n

-- ---- the script

abbrev pub tree_command : Command
tree_command = MakeTree tree_name generated_branches

abbrev pub fills_from : ℕ → ℕ → List Command
fills_from first n = map (Fill tree_name) (rows_from first n)

-- the tree, and a fill for each of n entries
abbrev pub gen_script : ℕ → List Command
gen_script n = tree_command ∷ fills_from 0 n

-- ---- one command after the other

-- what is left of the script of so many entries, of which some are done, behind the tree or before it
abbrev pub commands_left : Bool → ℕ → ℕ → List Command
commands_left false done entries = tree_command ∷ fills_from done (entries - done)
commands_left true done entries = fills_from done (entries - done)

-- the first item is taken, if there is one
abbrev pub TakesFirst : {A : Type 0} → List A → Option A → List A → Type 0
TakesFirst {A} old None new = (old ≡ []) × (new ≡ [])
TakesFirst {A} old (Some item) new = old ≡ item ∷ new

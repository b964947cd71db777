-- The branch of a row that breaks, and laws of rows.
use Rattle.std.specs.Prelude.{◌≡◌, ℕ, ◌+◌, List, [], ◌∷◌, Option, Some, None, Result, Ok, Err, is_none, is_ok, IsTrue, not}
use Rattle.std.specs.{List.{list_all}, Option.{option_map}}
use Rattle.rio_leaf.specs.declared.branch.BranchDef.{BranchDef}
use Rattle.rio_format.specs.{Bodies.{Counters}, declared.class.ClassDef.{ClassDef}, declared.value.Value.{Value}}
use Rattle.rio_machine.specs.{Limits.{has_long_entry}, Rows.{entries_of, row_fits}}
use Rattle.rio_entry.specs.Laws.{can_be_read_back}
use Rattle.rio_machine.specs.{RowEntries.{branch_values, numbers_behind, row_in}, declared.entry_fault.EntryFault.{EntryFault}}

-- ---- the branch that breaks

-- the number of the first branch that breaks, counted from this one on: this one, or one behind it
abbrev pub first_broken : Result (List Value) EntryFault → (List Value → Option ℕ) → Option ℕ
first_broken (Err e) behind = Some 0
first_broken (Ok values) behind = option_map (λ k. k + 1) (behind values)

abbrev pub broken_from : List ClassDef → List BranchDef → List (List ℕ) → Counters → Option ℕ
broken_from classes [] entries before = None
broken_from classes (b ∷ bs) [] before = None
broken_from classes (b ∷ bs) (entry ∷ entries) before =
    first_broken (branch_values classes b entry before) (λ values. broken_from classes bs entries (numbers_behind b values before))

-- the number of the first branch whose entry isn't read, counted from 0; None where the row is read
abbrev pub broken_branch : List ClassDef → List BranchDef → List (List ℕ) → Option ℕ
broken_branch classes branches entries = broken_from classes branches entries []

-- ---- laws

-- What is written for a row that fits the branches is read as it, if no entry is too long and its objects can be read back.
abbrev pub WrittenRowsAreRead : Type 0
WrittenRowsAreRead = (classes : List ClassDef) (branches : List BranchDef) (row : List Value) → IsTrue (row_fits classes branches row)
    → IsTrue (not (has_long_entry classes branches row)) → IsTrue (list_all can_be_read_back row)
    → row_in classes branches (entries_of classes branches row) ≡ Ok row

-- A row is read exactly where no branch breaks.
abbrev pub BrokenRowsHaveABranch : Type 0
BrokenRowsHaveABranch = (classes : List ClassDef) (branches : List BranchDef) (entries : List (List ℕ))
    → is_ok (row_in classes branches entries) ≡ is_none (broken_branch classes branches entries)

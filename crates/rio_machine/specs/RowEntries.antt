-- A row of a tree is read of one entry for each branch.
use Rattle.std.specs.Prelude.{ℕ, ℤ, pos, List, [], ◌∷◌, ◌++◌, map, Option, Result, Ok, unwrap_or, option_and_then}
use Rattle.std.specs.{Map.{lookup}, Result.{result_ok}, Str.{bytes_eq}}
use Rattle.rio_leaf.specs.{declared.branch.BranchDef.{BranchDef}, declared.leaf.Dim.{Dim, TheVariants.{Counted}}}
use Rattle.rio_format.specs.{Bodies.{Counters}, declared.value.Value.{Value, Int}, declared.class.ClassDef.{ClassDef}}
use Rattle.rio_num.specs.Reading.{◌>>=◌, some_if}
use Rattle.rio_machine.specs.{Entries.{entry_in}, Rows.{Column, leaf_column, object_column, leaf_numbers_after, row_fits, shape_columns}, State.{Row}}
use Rattle.rio_machine.specs.declared.entry_fault.EntryFault.{EntryFault}

-- ---- counts

-- what the nearest leaf of the counter's name says, of these leaves, the nearest first; 0 where there is none
abbrev pub count_before : Dim → Counters → ℤ
count_before (Counted counter times) before = unwrap_or (lookup (bytes_eq counter) before) (pos 0)
count_before other before = pos 0

abbrev pub column_count : Column → Counters → ℤ
column_count (leaf_column leaf) before = count_before leaf.dim before
column_count (object_column class) before = pos 0

-- the counts beside an entry, one for each column of its branch, behind the leaves of the branches before
abbrev pub counts_before : List Column → Counters → List Value
counts_before columns before = map (λ c. Int (column_count c before)) columns

-- ---- rows

-- the values of the branch's entry, behind the leaves of the branches before
abbrev pub branch_values : List ClassDef → BranchDef → List ℕ → Counters → Result (List Value) EntryFault
branch_values classes b entry before = entry_in classes b.shape (counts_before (shape_columns b.shape) before) entry

-- the leaves of the branch with what its entry says, and those before, the nearest first
abbrev pub numbers_behind : BranchDef → List Value → Counters → Counters
numbers_behind b values before = leaf_numbers_after (shape_columns b.shape) values before

-- The values of the branches' entries, one behind the other, behind the leaves of the branches before; or the fault of the
-- first branch whose entry breaks. With fewer entries than branches the row ends with the entries.
abbrev pub row_from : List ClassDef → List BranchDef → List (List ℕ) → Counters → Result (List Value) EntryFault
row_from classes [] entries before = Ok []
row_from classes (b ∷ bs) [] before = Ok []
row_from classes (b ∷ bs) (entry ∷ entries) before = do
  values ← branch_values classes b entry before
  more ← row_from classes bs entries (numbers_behind b values before)
  Ok (values ++ more)

-- a row of a tree, read of one entry for each branch
abbrev pub row_in : List ClassDef → List BranchDef → List (List ℕ) → Result (List Value) EntryFault
row_in classes branches entries = row_from classes branches entries []

-- that row, if the entries are read and it fits the branches
abbrev pub fitting_row : List ClassDef → List BranchDef → List (List ℕ) → Option Row
fitting_row classes branches entries = option_and_then (λ row. some_if (row_fits classes branches row) row) (result_ok (row_in classes branches entries))

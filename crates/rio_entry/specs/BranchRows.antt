-- The rows of a tree in a file: what the entries of its branches spell.
use Rattle.std.specs.{Prelude.{ℕ, List, [], ◌∷◌, ◌++◌, map, Option, Some, None}, List.{range_with_len}, Result.{result_ok}}
use Rattle.rio_format.specs.{declared.class.ClassDef.{ClassDef}, declared.value.Value.{Value}}
use Rattle.rio_leaf.specs.declared.branch.Shape.{Shape}
use Rattle.rio_tree.specs.{declared.head.Branch.{Branch}, declared.refusal.BranchRefusal.{BranchRefusal}}
use Rattle.rio_machine.specs.Entries.{entry_in}
use Rattle.rio_entry.specs.{Counters.{entry_counts, values_or_none}, StoredEntries.{branch_entry}}

-- the values of an entry, if it is there and is read
abbrev pub values_if_read : List ClassDef → Shape → List Value → Option (List ℕ) → Option (List Value)
values_if_read classes shape counts None = None
values_if_read classes shape counts (Some bytes) = result_ok (entry_in classes shape counts bytes)

-- The values of a branch at an entry, counted over its baskets from 0, if it is there and is read with the counts that the
-- branches before it say. These have such values there.
abbrev pub values_of_branch : List ℕ → List ClassDef → ℕ → List Branch → List (List Value) → Branch → Option (List Value)
values_of_branch file classes e before row b =
    values_if_read classes b.def.shape (entry_counts before row b) (branch_entry file b e)

-- the values of each branch at an entry, behind those of others; none where it isn't read
abbrev pub row_behind : List ℕ → List ClassDef → ℕ → List Branch → List (List Value) → List Branch → List (List Value)
row_behind file classes e before row [] = row
row_behind file classes e before row (b ∷ bs) =
    row_behind file classes e (before ++ b ∷ []) (row ++ values_or_none (values_of_branch file classes e before row b) ∷ []) bs

-- the values of each branch at an entry, whether or not all of its entries are read
unfoldable pub values_at_entry : List ℕ → List ClassDef → ℕ → List Branch → List (List Value)
values_at_entry file classes e branches = row_behind file classes e [] [] branches

-- of the values of each branch those of the branches that aren't refused, one behind the other
abbrev pub read_values : List (Option BranchRefusal) → List (List Value) → List Value
read_values [] row = []
read_values (r ∷ rs) [] = []
read_values (None ∷ rs) (vs ∷ row) = vs ++ read_values rs row
read_values (Some refusal ∷ rs) (vs ∷ row) = read_values rs row

-- the row at an entry: the values of the branches that aren't refused
abbrev pub row_at : List ℕ → List ClassDef → List Branch → List (Option BranchRefusal) → ℕ → List Value
row_at file classes branches refused e = read_values refused (values_at_entry file classes e branches)

-- the rows of a tree with so many entries
abbrev pub rows_of : List ℕ → List ClassDef → List Branch → List (Option BranchRefusal) → ℕ → List (List Value)
rows_of file classes branches refused entries = map (row_at file classes branches refused) (range_with_len 0 entries)

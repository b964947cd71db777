-- The entries of a tree whose baskets are all there, and the rows that are read of them. What stands at a basket's place and which
-- entries are a row is given, so it is the same whatever a file is known by.
use Rattle.std.specs.Prelude.{ℕ, List, [], ◌∷◌, ◌++◌, map, slice_get, length, Bool, ◌==◌, ◌&&◌, not, Option, Some, None, is_none, unwrap_or, option_and_then}
use Rattle.std.specs.{List.{range_with_len}, Option.{option_map}, Result.{result_ok}}
use Rattle.rio_num.specs.Reading.{some_if}
use Rattle.rio_key.specs.BasketEntries.{entries_in}
use Rattle.rio_tree.specs.{Index.{basket_counts}, Members.{◌>>=◌}}
use Rattle.rio_tree.specs.{declared.basket_at.BasketAt.{BasketAt}, declared.head.Branch.{Branch}, declared.head.TreeHead.{TreeHead}}

-- each of these, where all are there
abbrev pub all_there : {A : Type 0} → List (Option A) → Option (List A)
all_there [] = Some []
all_there (None ∷ os) = None
all_there (Some x ∷ os) = option_map (λ xs. x ∷ xs) (all_there os)

-- ---- the entries of a branch

-- the bytes of a basket's record, if it is there
abbrev pub BasketBytes : Type 0
BasketBytes = BasketAt → Option (List ℕ)

-- the entries in a basket's bytes, where it is read and has so many: one or more
abbrev pub counted_entries : Bool → ℕ → List ℕ → Option (List (List ℕ))
counted_entries offsets count bytes = do
  entries ← result_ok (entries_in offsets bytes)
  some_if (not (count == 0) && (length entries == count)) entries

-- those of baskets that have so many each, one basket behind the other
abbrev pub entries_of_baskets : BasketBytes → Bool → List BasketAt → List ℕ → Option (List (List ℕ))
entries_of_baskets bytes_of offsets [] counts = Some []
entries_of_baskets bytes_of offsets (at ∷ ats) [] = None
entries_of_baskets bytes_of offsets (at ∷ ats) (count ∷ counts) = do
  bytes ← bytes_of at
  entries ← counted_entries offsets count bytes
  option_map (λ more. entries ++ more) (entries_of_baskets bytes_of offsets ats counts)

-- those of a branch that the header doesn't refuse, counted over its baskets in order
abbrev pub branch_entries : BasketBytes → Branch → Option (List (List ℕ))
branch_entries bytes_of b =
    option_and_then (some_if (is_none b.refused)) (entries_of_baskets bytes_of b.offsets b.baskets (basket_counts b.baskets b.entries))

-- ---- rows

-- the entry of this number of each branch; branches that are read have as many entries as the tree
abbrev pub entries_at : List (List (List ℕ)) → ℕ → List (List ℕ)
entries_at entries e = map (λ es. unwrap_or (slice_get es e) []) entries

-- so many rows of these entries, where each is read
abbrev pub rows_of : {R : Type 0} → (List (List ℕ) → Option R) → ℕ → List (List (List ℕ)) → Option (List R)
rows_of row_of count entries = all_there (map (λ e. row_of (entries_at entries e)) (range_with_len 0 count))

-- the row of each entry of a tree, where every branch and every row is read
unfoldable pub rows_by : {R : Type 0} → (List (List ℕ) → Option R) → BasketBytes → TreeHead → Option (List R)
rows_by row_of bytes_of head = do
  entries ← all_there (map (branch_entries bytes_of) head.branches)
  rows_of row_of head.entries entries

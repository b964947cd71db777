-- The saved rows of a tree: those of its baskets, where each row is read and fits the branches; and how they are found in a file.
use Rattle.std.specs.Prelude.{◌≡◌, ℕ, ◌+◌, List, [], ◌∷◌, codes, drop, map, slice_get, Bool, true, false, ◌==◌, ◌&&◌, nat_lt, Option, Some, None, is_none, Ok, if◌then◌else◌}
use Rattle.std.specs.{Int.{cast_unsigned, w32}, List.{All, find, list_all}, List.Sorted.{IsNonDecreasingBy}, Option.{option_map_or}, Str.{bytes_eq}}
use Rattle.rio_num.specs.Reading.{some_if}
use Rattle.rio_key.specs.declared.head.KeyHead.{KeyHead}
use Rattle.rio_format.specs.{declared.class.ClassDef.{ClassDef}, declared.value.Value.{Value}}
use Rattle.rio_machine.specs.{RowEntries.{fitting_row}, State.{Row}}
use Rattle.rio_tree.specs.{Header.{tree_head_in}, Index.{basket_number}, Members.{◌>>=◌}, Refusals.{are_in_order}, SavedEntries.{BasketBytes, all_there, rows_by}, WrittenLaws.{stated_defs}}
use Rattle.rio_tree.specs.{declared.basket_at.BasketAt.{BasketAt}, declared.head.Branch.{Branch}, declared.head.TreeHead.{TreeHead}}
use Rattle.rio_entry.specs.StoredEntries.{basket_bytes, branch_entry, entry_behind, is_filled, stored_basket}

-- ---- the rows

-- The rows that a header names, where each of its branches is read, each of its baskets is there with an entry or more, and each row
-- fits the branches.
abbrev pub saved_rows : List ClassDef → BasketBytes → TreeHead → Option (List Row)
saved_rows classes bytes_of head = rows_by (fitting_row classes (stated_defs head.branches)) bytes_of head

-- the bytes of the baskets of a file: so many from the place that the header says
abbrev pub file_baskets : List ℕ → BasketBytes
file_baskets file at = Some (basket_bytes file at)

-- ---- the keys of a file's records

-- the key is that of a basket's record at its place, which is as long as the header says
abbrev pub is_basket_key : BasketAt → KeyHead → Bool
is_basket_key at key = (key.seek == at.seek) && (bytes_eq key.class (codes "TBasket") && (cast_unsigned w32 key.nbytes == at.bytes))

-- by these keys, a record stands at the basket's place, and it is the basket's
abbrev pub has_basket : List KeyHead → BasketAt → Bool
has_basket keys at = option_map_or (is_basket_key at) (find (λ key. key.seek == at.seek) keys) false

-- the bytes of the baskets of a file whose records have these keys
abbrev pub keyed_baskets : List KeyHead → List ℕ → BasketBytes
keyed_baskets keys file at = some_if (has_basket keys at) (basket_bytes file at)

-- each of the branch's baskets is there
abbrev pub has_baskets : List KeyHead → Branch → Bool
has_baskets keys b = list_all (has_basket keys) b.baskets

-- the keys stand in order of place
abbrev pub AreByPlace : List KeyHead → Type 0
AreByPlace keys = IsNonDecreasingBy (λ key. key.seek) keys

-- ---- which headers name rows that can be there

-- Where a header that was read doesn't refuse a branch, this has the tree's entries, and its baskets stand in order.
pub record IsInOrder (entries : ℕ) (b : Branch) : Type 0 where
  pub as_tree : b.entries ≡ entries
  pub rising : are_in_order entries b.baskets ≡ true

abbrev pub AreInOrder : TreeHead → Type 0
AreInOrder head = All (λ b. b.refused ≡ None → IsInOrder head.entries b) head.branches

-- so is each header that is read
abbrev pub ReadHeadsAreInOrder : Type 0
ReadHeadsAreInOrder = (v : Value) (head : TreeHead) → tree_head_in v ≡ Ok head → AreInOrder head

-- each of the baskets of a branch with so many entries has an entry or more
abbrev pub have_entries : List BasketAt → ℕ → Bool
have_entries [] entries = true
have_entries (at ∷ more) entries = nat_lt at.first (entry_behind more entries) && have_entries more entries

-- the branch isn't refused, and each of its baskets has an entry or more
abbrev pub is_whole : Branch → Bool
is_whole b = is_none b.refused && have_entries b.baskets b.entries

-- ---- one row in a file

abbrev pub is_basket_filled : List ℕ → Branch → ℕ → Option BasketAt → Bool
is_basket_filled file b number None = false
is_basket_filled file b number (Some at) = is_filled at (entry_behind (drop (number + 1) b.baskets) b.entries) (stored_basket file b.offsets at)

-- the basket of this number has the entries that the header says
abbrev pub is_filled_at : List ℕ → Branch → ℕ → Bool
is_filled_at file b number = is_basket_filled file b number (slice_get b.baskets number)

-- the bytes of an entry of a branch, if its basket has the entries that the header says
abbrev pub filled_entry : List ℕ → Branch → ℕ → Option (List ℕ)
filled_entry file b e = if is_filled_at file b (basket_number e b.baskets) then branch_entry file b e else None

-- the row at an entry, if every branch has one there, and they are read and fit
abbrev pub row_there : List ℕ → List ClassDef → List Branch → ℕ → Option Row
row_there file classes branches e = do
  entries ← all_there (map (λ b. filled_entry file b e) branches)
  fitting_row classes (stated_defs branches) entries

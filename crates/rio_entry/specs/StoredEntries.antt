-- What the baskets of a branch hold in a file: whether they are read, and the entries.
use Rattle.std.specs.Prelude.{ℕ, ◌+◌, ◌-◌, List, [], ◌∷◌, length, take, drop, slice_get, Option, Some, None, Result, Ok, Err, Bool, true, false, ◌==◌, ◌&&◌, not, if◌then◌else◌}
use Rattle.std.specs.List.{list_any}
use Rattle.rio_tree.specs.{Index.{basket_number}, declared.basket_at.BasketAt.{BasketAt}, declared.head.Branch.{Branch}}
use Rattle.rio_tree.specs.declared.refusal.BranchRefusal.{BranchRefusal, TheVariants.{Compressed as IsCompressed, BadBasket}}
use Rattle.rio_key.specs.{declared.basket_fault.BasketFault.{BasketFault, TheVariants.{BadLast, BadOffsets, Compressed, NoMemory}}, BasketEntries.{entries_in}}

-- what a basket holds: its entries, or why it isn't read
abbrev pub StoredEntries : Type 0
StoredEntries = Result (List (List ℕ)) BasketFault

-- a basket's bytes: so many from its place on, as far as the file goes
abbrev pub basket_bytes : List ℕ → BasketAt → List ℕ
basket_bytes file at = take at.bytes (drop at.seek file)

-- what a basket holds, with offsets or without
abbrev pub stored_basket : List ℕ → Bool → BasketAt → StoredEntries
stored_basket file offsets at = entries_in offsets (basket_bytes file at)

abbrev pub is_compressed_basket : StoredEntries → Bool
is_compressed_basket (Ok entries) = false
is_compressed_basket (Err (BadLast place)) = false
is_compressed_basket (Err (BadOffsets place)) = false
is_compressed_basket (Err Compressed) = true
is_compressed_basket (Err NoMemory) = false

-- The entry behind a basket's: the first of the next one, and for the last one the number of the branch's entries.
abbrev pub entry_behind : List BasketAt → ℕ → ℕ
entry_behind [] entries = entries
entry_behind (next ∷ more) entries = next.first

-- The basket is read, and its entries go from its first one up to the one behind them. Where that one is no later than the
-- first, there is no such number of entries unless it is 0.
abbrev pub is_filled : BasketAt → ℕ → StoredEntries → Bool
is_filled at behind (Ok entries) = at.first + length entries == behind
is_filled at behind (Err fault) = false

-- each of the baskets of a branch with so many entries is
abbrev pub are_filled : List ℕ → Bool → ℕ → List BasketAt → Bool
are_filled file offsets entries [] = true
are_filled file offsets entries (at ∷ more) =
    is_filled at (entry_behind more entries) (stored_basket file offsets at) && are_filled file offsets entries more

-- why baskets aren't read: one is compressed, whatever the others are, or not all are filled
abbrev pub refusal_by : Bool → Bool → Option BranchRefusal
refusal_by compressed filled = if compressed then Some IsCompressed else if not filled then Some BadBasket else None

abbrev pub has_compressed : List ℕ → Bool → List BasketAt → Bool
has_compressed file offsets baskets = list_any (λ at. is_compressed_basket (stored_basket file offsets at)) baskets

-- why the baskets of a branch with so many entries aren't read
abbrev pub refusal_of_baskets : List ℕ → Bool → ℕ → List BasketAt → Option BranchRefusal
refusal_of_baskets file offsets entries baskets = refusal_by (has_compressed file offsets baskets) (are_filled file offsets entries baskets)

abbrev pub baskets_refusal : List ℕ → Branch → Option BranchRefusal
baskets_refusal file b = refusal_of_baskets file b.offsets b.entries b.baskets

-- ---- one entry

abbrev pub entries_or_none : StoredEntries → List (List ℕ)
entries_or_none (Ok entries) = entries
entries_or_none (Err fault) = []

-- the bytes of an entry in a basket that has it
abbrev pub entry_in_basket : List ℕ → Bool → ℕ → Option BasketAt → Option (List ℕ)
entry_in_basket file offsets e None = None
entry_in_basket file offsets e (Some at) = slice_get (entries_or_none (stored_basket file offsets at)) (e - at.first)

-- the bytes of an entry of a branch, counted over its baskets in order, if it is there
abbrev pub branch_entry : List ℕ → Branch → ℕ → Option (List ℕ)
branch_entry file b e = entry_in_basket file b.offsets e (slice_get b.baskets (basket_number e b.baskets))

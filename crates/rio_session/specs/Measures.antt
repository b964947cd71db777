-- Numbers that tell how long the records of a tree's save are, without the entries themselves, and how large they can be.
use Rattle.std.specs.Prelude.{◌≡◌, ◌<◌, ◌≤◌, ℕ, zero, suc, ◌+◌, ◌*◌, ◌/◌, ◌^◌, ◌==◌, min, List, [], ◌∷◌, codes, length, slice_get, Bool, true, false, Option, Some, None, unwrap_or, if◌then◌else◌}
use Rattle.std.specs.List.{All, list_all}
use Rattle.rio_leaf.specs.declared.branch.BranchDef.{BranchDef}
use Rattle.rio_key.specs.{OpenBasket.{entries_length}, BasketRecord.{basket_key_length}}
use Rattle.rio_machine.specs.Limits.{branch_limit, head_length}
use Rattle.rio_tree.specs.{Header.{has_offsets}, HeaderLength.{header_length, header_size}}
use Rattle.rio_state.specs.Closing.{padded_length}
use Rattle.rio_fill.specs.{Fill.{BranchFill, TreeFill, defs_of, has_flag}, Laws.{IsSmall}, Prepare.{is_sized}}
use Rattle.rio_session.specs.{Due.{written_count}, declared.open_tree.Due.{Due}, declared.open_tree.Filled.{Filled}, declared.open_tree.SaveSums.{SaveSums}}

-- ---- flags

-- the first so many flags, in order
abbrev pub flags_in : ℕ → ℕ → List Bool
flags_in zero flags = []
flags_in (suc n) flags = has_flag flags 0 ∷ flags_in n (flags / 2)

-- those of the branches of a tree
abbrev pub flags_for : List BranchFill → ℕ → List Bool
flags_for branches flags = flags_in (length branches) flags

-- ---- a branch

abbrev pub filled_of : BranchFill → Filled
filled_of b = record { written = length b.baskets; count = length b.entries; bytes = entries_length b.entries }

-- with an entry of so many bytes more, where the open basket is put first if the flag is set
abbrev pub filled_with : Filled → Bool → ℕ → Filled
filled_with f true n = record { written = f.written + 1; count = 1; bytes = n }
filled_with f false n = record { written = f.written; count = f.count + 1; bytes = f.bytes + n }

-- how long the entry of the branch at k is
abbrev pub entry_length : List (List ℕ) → ℕ → ℕ
entry_length row k = length (unwrap_or (slice_get row k) [])

-- the branch at k, with its entry of a row where there is one
abbrev pub filled_by : Option (List (List ℕ)) → ℕ → ℕ → BranchFill → Filled
filled_by None flags k b = filled_of b
filled_by (Some row) flags k b = filled_with (filled_of b) (has_flag flags k) (entry_length row k)

-- ---- its open basket

-- how long the record is of a basket with so many entries of so many bytes, without its zero bytes
abbrev pub basket_size : List ℕ → BranchDef → ℕ → ℕ → ℕ
basket_size tree def count bytes = basket_key_length tree def.name + (if has_offsets def.shape then bytes + 4 * count + 8 else bytes)

-- how long it is with its zero bytes, and how many baskets are put: none where there are no entries
abbrev pub open_bytes : List ℕ → BranchDef → Filled → ℕ
open_bytes tree def f = if f.count == 0 then 0 else padded_length (basket_size tree def f.count f.bytes)

abbrev pub open_count : Filled → ℕ
open_count f = min f.count 1

-- ---- sums over branches

abbrev pub no_sums : SaveSums
no_sums = record { bytes = 0; baskets = 0; named = 0 }

-- with one branch more
abbrev pub with_branch : SaveSums → List ℕ → BranchDef → Filled → SaveSums
with_branch s tree def f =
    record { bytes = s.bytes + open_bytes tree def f; baskets = s.baskets + open_count f; named = s.named + (f.written + open_count f) }

-- with branches more, of which the first has this number, and each is filled so
abbrev pub sums_from : List ℕ → (ℕ → BranchFill → Filled) → ℕ → SaveSums → List BranchFill → SaveSums
sums_from tree by k s [] = s
sums_from tree by k s (b ∷ bs) = sums_from tree by (k + 1) (with_branch s tree b.def (by k b)) bs

-- how long the record is of the header that names so many baskets, with its zero bytes
abbrev pub header_bytes_with : List ℕ → List BranchDef → ℕ → ℕ
header_bytes_with name defs baskets = padded_length (head_length (codes "TTree") name + header_length name defs baskets)

-- what a save writes by these sums, if rows are pending
abbrev pub due_by_sums : List ℕ → List BranchDef → Bool → SaveSums → Due
due_by_sums name defs true s = record { bytes = s.bytes + header_bytes_with name defs s.named; baskets = s.baskets }
due_by_sums name defs false s = record { bytes = 0; baskets = s.baskets }

-- ---- how large they can be

-- A branch has a short name, and its open basket is small, with entries of lengths that they may have.
pub record IsBoundedBranch (b : BranchFill) : Type 0 where
  pub named : length b.def.name ≤ 100
  pub small : IsSmall b.entries
  pub sized : list_all (is_sized b.def.shape) b.entries ≡ true

-- A tree has a short name and few branches, its written baskets can be counted, and so can the bytes of its header.
pub record IsBoundedTree (name : List ℕ) (t : TreeFill) : Type 0 where
  pub named : length name ≤ 100
  pub few : length t.branches ≤ branch_limit
  pub each : All IsBoundedBranch t.branches
  pub written : written_count t.branches < 2 ^ 32
  pub header : header_size name (defs_of t.branches) < 2 ^ 30

-- no entry of a row is longer than an entry may be
abbrev pub IsSmallRow : List (List ℕ) → Type 0
IsSmallRow row = All (λ entry. length entry ≤ 16777216) row

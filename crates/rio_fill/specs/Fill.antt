-- A tree that is being filled, and how it goes on.
use Rattle.std.specs.Prelude.{ℕ, zero, suc, ◌+◌, ◌-◌, ◌*◌, ◌/◌, ◌%◌, ℤ, List, [], ◌∷◌, ◌++◌, length, map, slice_get, Bool, true, false, not, ◌==◌, ◌&&◌, nat_lt, Option, Some, None}
use Rattle.std.specs.{List.{list_all}, Option.{option_map_or}}
use Rattle.rio_leaf.specs.declared.branch.BranchDef.{BranchDef}
use Rattle.rio_key.specs.OpenBasket.{OpenBasket, takes_entry}
use Rattle.rio_tree.specs.{Header.{has_offsets}, declared.basket_at.BasketAt.{BasketAt}, declared.head.Branch.{Branch}, declared.head.TreeHead.{TreeHead}}

-- ---- what is kept

-- for how many more entries a basket has room, and for how many of their bytes
pub record EntryRoom : Type 0 where
  pub rooms : ℕ
  pub spare : ℕ

-- where baskets stand, and for how many more of them there is room
pub record PlaceRoom : Type 0 where
  pub places : List BasketAt
  pub rooms : ℕ

-- of a branch
pub record BranchFill : Type 0 where
  pub def : BranchDef
  pub class_version : ℤ
  pub counted_by : List ℕ
  -- where its baskets stand that were put; those that the last header names come first
  pub baskets : List BasketAt
  -- for how many more of them there is room
  pub rooms : ℕ
  -- the entries of its open basket
  pub entries : List (List ℕ)
  pub room : EntryRoom
  -- the room of the empty basket that takes its place when it is put
  pub next : EntryRoom

-- of a tree: how many entries its last header has, and how many rows came since
pub record TreeFill : Type 0 where
  pub saved : ℕ
  pub pending : ℕ
  pub branches : List BranchFill

abbrev pub defs_of : List BranchFill → List BranchDef
defs_of branches = map (λ b. b.def) branches

abbrev pub basket_of : BranchFill → OpenBasket
basket_of b = record { offsets = has_offsets b.def.shape; entries = b.entries; rooms = b.room.rooms; spare = b.room.spare }

-- ---- how it begins

abbrev pub no_room : EntryRoom
no_room = record { rooms = 0; spare = 0 }

abbrev pub branch_fill_of : Branch → BranchFill
branch_fill_of b = record {
  def = b.def;
  class_version = b.class_version;
  counted_by = b.counted_by;
  baskets = b.baskets;
  rooms = 0;
  entries = [];
  room = no_room;
  next = no_room;
}

-- a saved tree, and nothing pending
abbrev pub fill_of : TreeHead → TreeFill
fill_of head = record { saved = head.entries; pending = 0; branches = map branch_fill_of head.branches }

-- ---- numbers of entries

-- how many entries a tree has with those that are pending
abbrev pub entry_count : TreeFill → ℕ
entry_count t = t.saved + t.pending

-- how many entries of a branch stand before its open basket, in a tree of so many
abbrev pub count_before : ℕ → BranchFill → ℕ
count_before count b = count - length b.entries

abbrev pub has_no_entries : BranchFill → Bool
has_no_entries b = length b.entries == 0

-- ---- which baskets are put before a row comes

-- the entry goes into the open basket
abbrev pub takes : BranchFill → List ℕ → Bool
takes b entry = takes_entry b.entries (length entry)

abbrev pub is_full_for : BranchFill → Option (List ℕ) → Bool
is_full_for b (Some entry) = not (takes b entry)
is_full_for b None = false

abbrev pub bit_of : Bool → ℕ
bit_of true = 1
bit_of false = 0

-- A number of which the bit at k says whether the open basket of the k-th branch is put first.
abbrev pub full_flags : List BranchFill → List (List ℕ) → ℕ
full_flags [] entries = 0
full_flags (b ∷ bs) [] = 0
full_flags (b ∷ bs) (entry ∷ entries) = bit_of (is_full_for b (Some entry)) + 2 * full_flags bs entries

-- A number of which the bit at k says whether the open basket of the k-th branch has entries.
abbrev pub open_flags : List BranchFill → ℕ
open_flags [] = 0
open_flags (b ∷ bs) = bit_of (not (has_no_entries b)) + 2 * open_flags bs

-- the bit at k
abbrev pub has_flag : ℕ → ℕ → Bool
has_flag flags zero = flags % 2 == 1
has_flag flags (suc k) = has_flag (flags / 2) k

-- ---- a basket that was put

-- the open basket stands there from now on, and an empty one takes its place
abbrev pub branch_put : BasketAt → BranchFill → BranchFill
branch_put at b = record b { baskets = b.baskets ++ at ∷ []; rooms = b.rooms - 1; entries = []; room = b.next; next = no_room }

-- the branches, of which f changes the one at k
abbrev pub changed_at : (BranchFill → BranchFill) → List BranchFill → ℕ → List BranchFill
changed_at f [] k = []
changed_at f (b ∷ bs) zero = f b ∷ bs
changed_at f (b ∷ bs) (suc k) = b ∷ changed_at f bs k

-- there is a branch at k, with room for the place of one more basket
abbrev pub has_room_at : List BranchFill → ℕ → Bool
has_room_at branches k = option_map_or (λ b. nat_lt 0 b.rooms) (slice_get branches k) false

abbrev pub basket_put : TreeFill → ℕ → BasketAt → TreeFill
basket_put t k at = record t { branches = changed_at (branch_put at) t.branches k }

-- The open basket may stand there, in a tree of so many entries: it has some, the place names the first of them, and there
-- is room for the place.
abbrev pub may_be_put : ℕ → BasketAt → BranchFill → Bool
may_be_put count at b = not (has_no_entries b) && ((at.first == count_before count b) && nat_lt 0 b.rooms)

-- there is such a branch at k
abbrev pub may_put : TreeFill → ℕ → BasketAt → Bool
may_put t k at = option_map_or (may_be_put (entry_count t) at) (slice_get t.branches k) false

-- ---- a row

abbrev pub branch_added : BranchFill → List ℕ → BranchFill
branch_added b entry = record b {
  entries = b.entries ++ entry ∷ [];
  room = record { rooms = b.room.rooms - 1; spare = b.room.spare - length entry };
}

-- each branch has its entry of the row at the end
abbrev pub branches_added : List BranchFill → List (List ℕ) → List BranchFill
branches_added [] entries = []
branches_added (b ∷ bs) [] = b ∷ bs
branches_added (b ∷ bs) (entry ∷ entries) = branch_added b entry ∷ branches_added bs entries

-- one more row is pending
abbrev pub row_added : TreeFill → List (List ℕ) → TreeFill
row_added t entries = record t { pending = t.pending + 1; branches = branches_added t.branches entries }

-- ---- a save

-- All open baskets were put, and the header of the tree has them and all entries.
abbrev pub all_saved : TreeFill → TreeFill
all_saved t = record t { saved = entry_count t; pending = 0 }

abbrev pub nothing_is_open : TreeFill → Bool
nothing_is_open t = list_all has_no_entries t.branches

-- What is held of the branches of a tree while its rows are read, by the records of the file.
use Rattle.std.specs.Prelude.{◌≡◌, ◌≤◌, ◌<◌, ℕ, Bool, Contains, List, slice_get, Some, None, Option, IsTrue, is_some}
use Rattle.rio_key.specs.BasketEntries.{entries_in}
use Rattle.rio_chain.specs.{Chains.{HasRecordSegment}, Segments.{Link, RecordAt}, declared.segment.Segment.{Segment}}
use Rattle.rio_entry.specs.{StoredEntries.{StoredEntries}, declared.lane.Lane.{Lane}}
use Rattle.rio_fill.specs.Fill.{BranchFill, TreeFill, count_before, entry_count}
use Rattle.rio_tree.specs.{Header.{has_offsets}, Index.{basket_number}, declared.basket_at.BasketAt.{BasketAt}}

-- a record begins where each of these baskets stands
abbrev pub AreStored : List Segment → List BasketAt → Type 0
AreStored segments baskets = (j : ℕ) (at : BasketAt) → slice_get baskets j ≡ Some at → HasRecordSegment segments at.seek

-- and each of a tree's
abbrev pub IsTreeStored : List Segment → TreeFill → Type 0
IsTreeStored segments t = (k : ℕ) (b : BranchFill) → slice_get t.branches k ≡ Some b → AreStored segments b.baskets

-- the record at a place is read as this basket
abbrev pub IsReadAs : List Link → Bool → ℕ → StoredEntries → Type 0
IsReadAs links offsets place found = (bytes : List ℕ) → Contains links (RecordAt place bytes) → found ≡ entries_in offsets bytes

-- A basket of this number is held; it is what its record is read as.
abbrev pub IsHeld : List Link → Bool → List BasketAt → ℕ → Option StoredEntries → Type 0
IsHeld links offsets baskets number None = Unit {0}
IsHeld links offsets baskets number (Some found) = (at : BasketAt) → slice_get baskets number ≡ Some at → IsReadAs links offsets at.seek found

-- the basket that is held isn't behind the entry's
pub record IsLane (links : List Link) (e : ℕ) (b : BranchFill) (lane : Lane) : Type 0 where
  pub number : lane.number ≤ basket_number e b.baskets
  pub held : IsHeld links (has_offsets b.def.shape) b.baskets lane.number lane.basket

-- each of the branches has such a lane
abbrev pub AreLanes : List Link → ℕ → List BranchFill → List Lane → Type 0
AreLanes links e branches lanes =
    (k : ℕ) (b : BranchFill) (lane : Lane) → slice_get branches k ≡ Some b → slice_get lanes k ≡ Some lane → IsLane links e b lane

-- the entry's basket is held
pub record HoldsEntry (links : List Link) (e : ℕ) (b : BranchFill) (lane : Lane) : Type 0 where
  pub number : lane.number ≡ basket_number e b.baskets
  pub some : IsTrue (is_some lane.basket)
  pub held : IsHeld links (has_offsets b.def.shape) b.baskets lane.number lane.basket

-- of each of so many branches, if the entry stands before the open basket
abbrev pub HoldEntry : List Link → ℕ → ℕ → ℕ → List BranchFill → List Lane → Type 0
HoldEntry links count e n branches lanes =
    (k : ℕ) (b : BranchFill) (lane : Lane) → k < n → slice_get branches k ≡ Some b → slice_get lanes k ≡ Some lane → e < count_before count b → HoldsEntry links e b lane

-- ---- of the branch at a number

abbrev pub IsLaneAt : List Link → ℕ → TreeFill → ℕ → Lane → Type 0
IsLaneAt links e t k lane = (b : BranchFill) → slice_get t.branches k ≡ Some b → IsLane links e b lane

abbrev pub HoldsEntryAt : List Link → ℕ → TreeFill → ℕ → Lane → Type 0
HoldsEntryAt links e t k lane = (b : BranchFill) → slice_get t.branches k ≡ Some b → e < count_before (entry_count t) b → HoldsEntry links e b lane

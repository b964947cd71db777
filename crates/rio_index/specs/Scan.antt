-- A scan of a tree: what is held of each branch, which basket is wanted, and the next row.
use Rattle.std.specs.Prelude.{◌≡◌, ℕ, ◌+◌, ◌-◌, ◌<◌, List, [], ◌∷◌, length, map, slice_get, slice_set, Option, Some, None, is_none, unwrap_or, option_and_then, Result, Bool, false, ◌&&◌, not, nat_le, nat_lt, if◌then◌else◌}
use Rattle.std.specs.Option.{option_map}
use Rattle.rio_leaf.specs.declared.branch.BranchDef.{BranchDef}
use Rattle.rio_format.specs.{declared.class.ClassDef.{ClassDef}, declared.value.Value.{Value}}
use Rattle.rio_entry.specs.Rows.{broken_branch}
use Rattle.rio_machine.specs.declared.entry_fault.EntryFault.{EntryFault}
use Rattle.rio_machine.specs.RowEntries.{row_in}
use Rattle.rio_tree.specs.{Index.{IsIndex, basket_counts}, declared.basket_at.BasketAt.{BasketAt}, declared.head.Branch.{Branch}}
use Rattle.rio_tree.specs.{declared.head.TreeHead.{TreeHead}, declared.refusal.BranchRefusal.{BranchRefusal}}
use Rattle.rio_entry.specs.Index.{basket_holding}
use Rattle.rio_index.specs.{declared.lane.Held.{Held}, declared.lane.Lane.{Lane}}

-- A scan: the header of the tree, what the scan has of each of its branches, and the number of the next row.
pub record RowScan : Type 0 where
  pub head : TreeHead
  pub lanes : List Lane
  pub next : ℕ

-- ---- where a scan can begin, and go on

-- the branch is refused, or has the tree's entries and baskets that hold them
abbrev pub CanHold : ℕ → Branch → Option BranchRefusal → Type 0
CanHold entries b (Some why) = Unit {0}
CanHold entries b None = (b.entries ≡ entries) × IsIndex b.baskets entries

-- each branch that the header doesn't refuse does
abbrev pub CanScan : ℕ → List Branch → Type 0
CanScan entries [] = Unit {0}
CanScan entries (b ∷ bs) = CanHold entries b b.refused × CanScan entries bs

-- each branch that the scan doesn't refuse does
abbrev pub CanGoOn : ℕ → List Branch → List Lane → Type 0
CanGoOn entries [] [] = Unit {0}
CanGoOn entries [] (lane ∷ lanes) = ⊥
CanGoOn entries (b ∷ bs) [] = ⊥
CanGoOn entries (b ∷ bs) (lane ∷ lanes) = CanHold entries b lane.refused × CanGoOn entries bs lanes

-- nothing is held, and the refusals are the header's
abbrev pub empty_lane : Branch → Lane
empty_lane b = record { refused = b.refused; held = None }

abbrev pub scan_begun : TreeHead → RowScan
scan_begun head = record { head = head; lanes = map empty_lane head.branches; next = 0 }

-- ---- the basket that is wanted

-- the basket has the entry, counted over the branch
abbrev pub has_entry : ℕ → Held → Bool
has_entry entry h = nat_le h.first entry && nat_lt entry (h.first + length h.entries)

abbrev pub holds_entry : ℕ → Option Held → Bool
holds_entry entry None = false
holds_entry entry (Some h) = has_entry entry h

-- the number of the basket that is wanted for the entry: that which holds it, if the branch is read and the basket isn't held
abbrev pub wanted_by : ℕ → Branch → Lane → Option ℕ
wanted_by entry b lane =
    if is_none lane.refused && not (holds_entry entry lane.held) then basket_holding b.baskets b.entries entry else None

-- the first branch that wants a basket, with the number of the basket; branches are counted from this number on
abbrev pub first_wanted : ℕ → Option ℕ → Option (ℕ × ℕ) → Option (ℕ × ℕ)
first_wanted k (Some basket) behind = Some (k, basket)
first_wanted k None behind = behind

abbrev pub wanted_from : ℕ → ℕ → List Branch → List Lane → Option (ℕ × ℕ)
wanted_from k entry [] lanes = None
wanted_from k entry (b ∷ bs) [] = None
wanted_from k entry (b ∷ bs) (lane ∷ lanes) = first_wanted k (wanted_by entry b lane) (wanted_from (k + 1) entry bs lanes)

-- the first branch that wants a basket for the next row, and the number of the basket
abbrev pub wanted : RowScan → Option (ℕ × ℕ)
wanted s = wanted_from 0 s.next s.head.branches s.lanes

-- how many branches want a basket
abbrev pub one_wanted : Option ℕ → ℕ
one_wanted (Some basket) = 1
one_wanted None = 0

abbrev pub wanting_from : ℕ → List Branch → List Lane → ℕ
wanting_from entry [] lanes = 0
wanting_from entry (b ∷ bs) [] = 0
wanting_from entry (b ∷ bs) (lane ∷ lanes) = one_wanted (wanted_by entry b lane) + wanting_from entry bs lanes

abbrev pub wanting : RowScan → ℕ
wanting s = wanting_from s.next s.head.branches s.lanes

-- ---- a basket that is given

-- the number of a basket's first entry
abbrev pub first_entry : List BasketAt → ℕ → ℕ
first_entry baskets basket = unwrap_or (option_map (λ b. b.first) (slice_get baskets basket)) 0

-- where a basket begins that stands behind another, and behind the last one the branch's entries
abbrev pub first_behind : List BasketAt → ℕ → ℕ → ℕ
first_behind baskets behind entries = unwrap_or (option_map (λ b. b.first) (slice_get baskets behind)) entries

-- how many entries the header gives a basket of the branch
abbrev pub entry_count : Branch → ℕ → Option ℕ
entry_count b basket = slice_get (basket_counts b.baskets b.entries) basket

-- the same, for the number of the branch
abbrev pub count_in_basket : RowScan → ℕ → ℕ → Option ℕ
count_in_basket s branch basket = option_and_then (λ b. entry_count b basket) (slice_get s.head.branches branch)

-- This basket of the branch is wanted, and the header gives it so many entries.
pub record IsWanted (s : RowScan) (branch basket entries : ℕ) : Type 0 where
  pub first : wanted s ≡ Some (branch, basket)
  pub count : count_in_basket s branch basket ≡ Some entries

abbrev pub lane_at : List Lane → ℕ → Lane
lane_at lanes k = unwrap_or (slice_get lanes k) (record { refused = None; held = None })

abbrev pub baskets_at : List Branch → ℕ → List BasketAt
baskets_at branches k = unwrap_or (option_map (λ b. b.baskets) (slice_get branches k)) []

-- the entries of a basket of the branch are held, and no others of the branch
abbrev pub holding : RowScan → ℕ → ℕ → List (List ℕ) → RowScan
holding s branch basket entries =
    let held : Held = record { first = first_entry (baskets_at s.head.branches branch) basket; entries = entries } in
    record s { lanes = slice_set s.lanes branch (record (lane_at s.lanes branch) { held = Some held }) }

-- ---- refusals

-- the branch is refused, and nothing of it is held
abbrev pub refusing : RowScan → ℕ → BranchRefusal → RowScan
refusing s branch why = record s { lanes = slice_set s.lanes branch (record { refused = Some why; held = None }) }

-- ---- the next row

-- the branches that are read
abbrev pub read_branches : List Branch → List Lane → List BranchDef
read_branches [] lanes = []
read_branches (b ∷ bs) [] = []
read_branches (b ∷ bs) (lane ∷ lanes) =
    if is_none lane.refused then b.def ∷ read_branches bs lanes else read_branches bs lanes

-- their numbers, where branches are counted from this number on
abbrev pub read_numbers : ℕ → List Lane → List ℕ
read_numbers k [] = []
read_numbers k (lane ∷ lanes) = if is_none lane.refused then k ∷ read_numbers (k + 1) lanes else read_numbers (k + 1) lanes

-- the bytes of an entry, counted over the branch, in the basket; none where it doesn't have the entry
abbrev pub entry_among : ℕ → Held → List ℕ
entry_among entry h = unwrap_or (slice_get h.entries (entry - h.first)) []

abbrev pub held_entry : ℕ → Option Held → List ℕ
held_entry entry None = []
held_entry entry (Some h) = entry_among entry h

-- the bytes of the entry in each branch that is read
abbrev pub read_entries : ℕ → List Lane → List (List ℕ)
read_entries entry [] = []
read_entries entry (lane ∷ lanes) =
    if is_none lane.refused then held_entry entry lane.held ∷ read_entries entry lanes else read_entries entry lanes

-- the next row, or the fault of the first branch whose entry breaks
abbrev pub next_row : List ClassDef → RowScan → Result (List Value) EntryFault
next_row classes s = row_in classes (read_branches s.head.branches s.lanes) (read_entries s.next s.lanes)

-- the number of the first branch whose entry breaks, in the header
abbrev pub broken_at : List ClassDef → ℕ → List Branch → List Lane → Option ℕ
broken_at classes entry branches lanes =
    option_and_then (slice_get (read_numbers 0 lanes)) (broken_branch classes (read_branches branches lanes) (read_entries entry lanes))

abbrev pub next_broken : List ClassDef → RowScan → Option ℕ
next_broken classes s = broken_at classes s.next s.head.branches s.lanes

-- there is a next row
abbrev pub HasNext : RowScan → Type 0
HasNext s = s.next < s.head.entries

-- at the row behind
abbrev pub behind_next : RowScan → RowScan
behind_next s = record s { next = s.next + 1 }

-- at the first row
abbrev pub from_start : RowScan → RowScan
from_start s = record s { next = 0 }

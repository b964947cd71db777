-- Room for baskets and for a row, which is made beforehand.
use Rattle.std.specs.Prelude.{◌≡◌, ℕ, List, [], ◌∷◌, drop, length, map, max, slice_get, Bool, true, false, ◌&&◌, nat_le, nat_lt, Option, Some, None, option_and_then, if◌then◌else◌}
use Rattle.std.specs.Option.{option_map}
use Rattle.rio_fill.specs.{Fill.{BranchFill, EntryRoom, TreeFill, no_room, takes}, Prepare.{is_sized}}

-- ---- room is made

-- for one more entry of so many bytes
abbrev pub with_entry_room : EntryRoom → ℕ → EntryRoom
with_entry_room room n = record { rooms = max room.rooms 1; spare = max room.spare n }

-- for one more place
abbrev pub place_reserved : BranchFill → BranchFill
place_reserved b = record b { rooms = max b.rooms 1 }

-- for the entry: in the open basket where it takes the entry, and else in the one that takes its place
abbrev pub entry_reserved : BranchFill → List ℕ → BranchFill
entry_reserved b entry =
    if takes b entry then record b { room = with_entry_room b.room (length entry) }
    else record b { next = with_entry_room b.next (length entry) }

abbrev pub given_reserved : BranchFill → Option (List ℕ) → BranchFill
given_reserved b None = b
given_reserved b (Some entry) = entry_reserved b entry

-- for one more basket of the branch, and for the entry where one is given
abbrev pub branch_reserved : BranchFill → Option (List ℕ) → BranchFill
branch_reserved b entry = given_reserved (place_reserved b) entry

-- the entry of the row at k, where there is a row
abbrev pub entry_given : Option (List (List ℕ)) → ℕ → Option (List ℕ)
entry_given row k = option_and_then (λ entries. slice_get entries k) row

abbrev pub entries_behind : Option (List (List ℕ)) → ℕ → Option (List (List ℕ))
entries_behind row k = option_map (drop k) row

abbrev pub branches_reserved : List BranchFill → Option (List (List ℕ)) → List BranchFill
branches_reserved [] row = []
branches_reserved (b ∷ bs) row = branch_reserved b (entry_given row 0) ∷ branches_reserved bs (entries_behind row 1)

abbrev pub reserved : TreeFill → Option (List (List ℕ)) → TreeFill
reserved t row = record t { branches = branches_reserved t.branches row }

-- ---- what stays where memory runs out

abbrev pub without_room : BranchFill → BranchFill
without_room b = record b { rooms = 0; room = no_room; next = no_room }

-- all but the room
pub record SameButRoom (old new : TreeFill) : Type 0 where
  pub saved : new.saved ≡ old.saved
  pub pending : new.pending ≡ old.pending
  pub branches : map without_room new.branches ≡ map without_room old.branches

-- ---- room that there is

-- The open basket takes the entry, has room for it, and its entries may have that length.
abbrev pub may_be_added : BranchFill → List ℕ → Bool
may_be_added b entry =
    (takes b entry && is_sized b.def.shape entry) && (nat_lt 0 b.room.rooms && nat_le (length entry) b.room.spare)

-- there is one entry for each branch, and it may be added
abbrev pub may_add : List BranchFill → List (List ℕ) → Bool
may_add [] [] = true
may_add [] (entry ∷ entries) = false
may_add (b ∷ bs) [] = false
may_add (b ∷ bs) (entry ∷ entries) = may_be_added b entry && may_add bs entries

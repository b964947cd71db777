-- The rows that the header of a save represents: those of the header before it, and behind them those that were pending, whose entries
-- stand in the baskets that it names more.
use Rattle.std.specs.Prelude.{◌≡◌, ℕ, ◌+◌, ◌<◌, List, [], ◌∷◌, ◌++◌, length, map, Bool, Some, None, Ok}
use Rattle.std.specs.List.{All}
use Rattle.rio_format.specs.declared.class.ClassDef.{ClassDef}
use Rattle.rio_machine.specs.{Rows.{entries_of}, State.{Row}}
use Rattle.rio_key.specs.{Cut.{cut_into_baskets, firsts_from}, BasketEntries.{entries_in}}
use Rattle.rio_tree.specs.{WrittenLaws.{AreReadableBranches, stated_defs}, declared.basket_at.BasketAt.{BasketAt}, declared.head.Branch.{Branch}, declared.head.TreeHead.{TreeHead}}
use Rattle.rio_state.specs.{TreeLengths.{entries_by_branch}, Trees.{RecordsAt, basket_bytes, saved_rows}}
use Rattle.rio_machine.specs.RowEntries.{fitting_row}
use Rattle.rio_tree.specs.SavedEntries.{branch_entries}

-- ---- baskets

-- a basket stands there, and is read as these entries, one or more
pub record HoldsEntries (at_place : RecordsAt) (offsets : Bool) (at : BasketAt) (entries : List (List ℕ)) : Type 0 where
  pub bytes : List ℕ
  pub there : basket_bytes at_place at ≡ Some bytes
  pub read : entries_in offsets bytes ≡ Ok entries
  pub some : 0 < length entries

-- so it is of each of these
abbrev pub HoldAllEntries : RecordsAt → Bool → List BasketAt → List (List (List ℕ)) → Type 0
HoldAllEntries at_place offsets [] [] = Unit {0}
HoldAllEntries at_place offsets [] (b ∷ bs) = ⊥
HoldAllEntries at_place offsets (at ∷ ats) [] = ⊥
HoldAllEntries at_place offsets (at ∷ ats) (b ∷ bs) = HoldsEntries at_place offsets at b × HoldAllEntries at_place offsets ats bs

-- ---- branches

-- A branch in the header of a save, with so many entries in all, and in the header before, with so many. Behind its baskets it has
-- those that hold its pending entries, as they are cut.
pub record IsBranchSaved (at_place : RecordsAt) (saved count : ℕ) (pending : List (List ℕ)) (old new : Branch) : Type 0 where
  pub def : new.def ≡ old.def
  pub refused : new.refused ≡ None
  pub entries : new.entries ≡ count
  pub offsets : new.offsets ≡ old.offsets
  pub more : List BasketAt
  pub baskets : new.baskets ≡ old.baskets ++ more
  pub firsts : map (λ at. at.first) more ≡ firsts_from saved (cut_into_baskets pending)
  pub hold : HoldAllEntries at_place old.offsets more (cut_into_baskets pending)

abbrev pub AreBranchesSaved : RecordsAt → ℕ → ℕ → List (List (List ℕ)) → List Branch → List Branch → Type 0
AreBranchesSaved at_place saved count [] [] [] = Unit {0}
AreBranchesSaved at_place saved count (p ∷ ps) (b ∷ bs) (c ∷ cs) = IsBranchSaved at_place saved count p b c × AreBranchesSaved at_place saved count ps bs cs
AreBranchesSaved at_place saved count pending old new = ⊥

-- ---- headers

-- the entries of pending rows in each branch
abbrev pub pending_entries : List ClassDef → TreeHead → List Row → List (List (List ℕ))
pending_entries classes head rows = entries_by_branch (stated_defs head.branches) (map (entries_of classes (stated_defs head.branches)) rows)

-- A header that is read stands for rows among some records, and of a later header, which names these rows' entries behind its baskets,
-- each basket is there among other records.
pub record IsHeadSaved (classes : List ClassDef) (before behind : RecordsAt) (old new : TreeHead) (pending : List Row) : Type 0 where
  pub readable : AreReadableBranches old.entries [] old.branches
  pub entries : new.entries ≡ old.entries + length pending
  pub branches : AreBranchesSaved behind old.entries new.entries (pending_entries classes old pending) old.branches new.branches
  -- the baskets of before are read as they were
  pub kept : map (branch_entries (basket_bytes behind)) old.branches ≡ map (branch_entries (basket_bytes before)) old.branches
  -- what is written for the pending rows is read as them
  pub rows : All (λ row. fitting_row classes (stated_defs old.branches) (entries_of classes (stated_defs old.branches) row) ≡ Some row) pending

-- The rows that the later header stands for are those of the one before, and behind them the pending ones.
abbrev pub SavedRowsAreRead : Type 0
SavedRowsAreRead =
    (classes : List ClassDef) (before behind : RecordsAt) (old new : TreeHead) (saved pending : List Row)
    → saved_rows classes before old ≡ Some saved → IsHeadSaved classes before behind old new pending → saved_rows classes behind new ≡ Some (saved ++ pending)

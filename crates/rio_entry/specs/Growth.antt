-- Reading of entries and rows with more classes.
use Rattle.std.specs.{Prelude.{◌≡◌, ℕ, List, [], ◌∷◌, ◌++◌, true, Ok}, List.{list_all}}
use Rattle.rio_leaf.specs.{declared.branch.BranchDef.{BranchDef}, declared.branch.Shape.{Shape}}
use Rattle.rio_format.specs.{declared.class.ClassDef.{ClassDef}, declared.value.Value.{Value}, Growth.{PicksStay, is_all_read}}
use Rattle.rio_machine.specs.Rows.{row_fits}
use Rattle.rio_entry.specs.Reading.{SpellsEntry}
use Rattle.rio_machine.specs.Entries.{entry_in}
use Rattle.rio_machine.specs.RowEntries.{row_in}

-- What is read of an entry, if all of its values are, is the same wherever the same classes are picked.
abbrev pub EntryStays : Type 0
EntryStays = (old new : List ClassDef) → PicksStay old new → (shape : Shape) (counts row : List Value) (bytes : List ℕ) → list_all is_all_read row ≡ true
    → entry_in old shape counts bytes ≡ Ok row → entry_in new shape counts bytes ≡ Ok row

-- and bytes that spell such an entry spell it there too
abbrev pub SpelledEntryStays : Type 0
SpelledEntryStays = (old new : List ClassDef) → PicksStay old new → (shape : Shape) (counts row : List Value) (bytes : List ℕ) → list_all is_all_read row ≡ true
    → SpellsEntry old shape counts row bytes → SpellsEntry new shape counts row bytes

-- With one class more a row that fits its branches is read as it was, from whatever entries.
abbrev pub FittingRowStays : Type 0
FittingRowStays = (classes : List ClassDef) (class : ClassDef) (branches : List BranchDef) (entries : List (List ℕ)) (row : List Value) → row_fits classes branches row ≡ true
    → row_in classes branches entries ≡ Ok row → row_in (classes ++ class ∷ []) branches entries ≡ Ok row

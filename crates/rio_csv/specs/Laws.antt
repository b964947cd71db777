-- Rows that are printed are read again, and bad rows fit no tree.
use Rattle.std.specs.{Prelude.{◌≡◌, ⊤, ℕ, ◌^◌, ◌<◌, ℤ, List, [], ◌∷◌, Some, Bool, true, false}, List.{flat_map}}
use Rattle.csv.specs.Reading.{strip_bom}
use Rattle.rio_csv.specs.{Fields.{field_kind}, Rows.{letters_of, line_of, rows_in}, declared.field.FieldKind.{FieldKind, TheVariants.{Number, Truth, FourBytes, EightBytes, Text}}}
use Rattle.rio_leaf.specs.{Stated.{are_stated_branches}, declared.branch.BranchDef.{BranchDef}}
use Rattle.rio_machine.specs.Rows.{row_fits}
use Rattle.rio_format.specs.{declared.class.ClassDef.{ClassDef}, declared.value.Value.{Value, Int, Bits32, Bits64, Bool as Truthful, Text as Texted}}
use Rattle.rio_token.specs.Laws.{IsNumber}

-- a value that fields of the kind state
abbrev pub IsOfKind : FieldKind → Value → Type 0
IsOfKind Number v = (z : ℤ) × IsNumber z × (v ≡ Int z)
IsOfKind Truth v = (b : Bool) × (v ≡ Truthful b)
IsOfKind FourBytes v = (n : ℕ) × (n < 2 ^ 32) × (v ≡ Bits32 n)
IsOfKind EightBytes v = (n : ℕ) × (n < 2 ^ 64) × (v ≡ Bits64 n)
IsOfKind Text v = (text : List ℕ) × (v ≡ Texted text)

-- a value for each letter, of its kind
abbrev pub IsRow : List ℕ → List Value → Type 0
IsRow [] [] = ⊤
IsRow [] (v ∷ vs) = ⊥
IsRow (letter ∷ letters) [] = ⊥
IsRow (letter ∷ letters) (v ∷ vs) = (kind : FieldKind) × (field_kind letter ≡ Some kind) × IsOfKind kind v × IsRow letters vs

abbrev pub AreRows : List ℕ → List (List Value) → Type 0
AreRows letters [] = ⊤
AreRows letters (row ∷ rows) = IsRow letters row × AreRows letters rows

-- the lines of rows are read as the rows; the first field may not begin as a byte order mark
abbrev pub PrintedRowsAreRead : Type 0
PrintedRowsAreRead = (branches : List BranchDef) (rows : List (List Value)) → AreRows (letters_of branches) rows
    → strip_bom (flat_map line_of rows) ≡ flat_map line_of rows
    → rows_in branches (flat_map line_of rows) ≡ rows

-- a bad row fits no branches that a line of the script can state
abbrev pub BadRowsDontFit : Type 0
BadRowsDontFit = (classes : List ClassDef) (branches : List BranchDef) → are_stated_branches branches ≡ true → row_fits classes branches [] ≡ false

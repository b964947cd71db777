-- The entries of a row as they are made, one after the other.
use Rattle.std.specs.Prelude.{◌≡◌, ◌≢◌, ℕ, List, [], ◌∷◌, ◌++◌, length, true, false, Result, Ok, Err, if◌then◌else◌}
use Rattle.rio_format.specs.{Bodies.{Counters}, declared.class.ClassDef.{ClassDef}, declared.value.Value.{Value}}
use Rattle.rio_leaf.specs.declared.branch.Shape.{Shape}
use Rattle.rio_machine.specs.{Limits.{is_too_long}, Rows.{columns_bytes, columns_fit, shape_columns}}
use Rattle.rio_machine.specs.declared.entry_fault.EntryFault.{EntryFault, TheVariants.{BadRow, TooLarge, NoMemory as OutOfMemory}}
use Rattle.rio_fill.specs.declared.prepared.Parts.{Parts}

-- with one entry more, which isn't kept where it is too long
abbrev pub with_part : Parts → List ℕ → Parts
with_part parts entry =
    if is_too_long (length entry) then record { entries = parts.entries; long = true }
    else record { entries = parts.entries ++ entry ∷ []; long = parts.long }

-- The values fit the branch and its entry is there, or they don't fit, unless memory ran out.
abbrev pub PutsPart : List ClassDef → Shape → List Value → Counters → Parts → Result (Unit {0}) EntryFault → Parts → Type 0
PutsPart classes shape values before old (Ok x) new =
    (columns_fit classes (shape_columns shape) values before ≡ true) × (new ≡ with_part old (columns_bytes classes (shape_columns shape) values before))
PutsPart classes shape values before old (Err e) new =
    e ≢ OutOfMemory → (columns_fit classes (shape_columns shape) values before ≡ false) × (e ≡ BadRow)

-- the entries of all branches, where these values are left
abbrev pub whole_row : Parts → List Value → Result (List (List ℕ)) EntryFault
whole_row parts (v ∷ vs) = Err BadRow
whole_row parts [] = if parts.long then Err TooLarge else Ok parts.entries

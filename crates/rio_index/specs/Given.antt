-- What the calls of a scan return.
use Rattle.std.specs.Prelude.{◌≡◌, ◌≤◌, List, Option, Some, None, Result, Ok, Err}
use Rattle.rio_format.specs.{declared.class.ClassDef.{ClassDef}, declared.value.Value.{Value}}
use Rattle.rio_machine.specs.declared.entry_fault.EntryFault.{EntryFault, TheVariants.{NoMemory}}
use Rattle.rio_index.specs.Scan.{HasNext, RowScan, behind_next, next_row}

-- The next row or its fault was returned, and the scan stands behind it; past the last row nothing was returned. Where
-- memory ran out it stays where it was.
abbrev pub GivesRow : List ClassDef → Result (Option (List Value)) EntryFault → RowScan → RowScan → Type 0
GivesRow classes (Ok None) old new = (old.head.entries ≤ old.next) × (new ≡ old)
GivesRow classes (Ok (Some row)) old new = HasNext old × (next_row classes old ≡ Ok row) × (new ≡ behind_next old)
GivesRow classes (Err NoMemory) old new = HasNext old × (new ≡ old)
GivesRow classes (Err e) old new = HasNext old × (next_row classes old ≡ Err e) × (new ≡ behind_next old)

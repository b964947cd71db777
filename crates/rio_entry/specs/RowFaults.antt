-- Why an entry of a row isn't read: the first fault.
use Rattle.std.specs.Prelude.{List, [], ◌∷◌, Option, Some, None, Ok, Err, unwrap_or}
use Rattle.rio_key.specs.declared.basket_fault.BasketFault.TheVariants.{BadLast}
use Rattle.rio_machine.specs.declared.entry_fault.EntryFault.{EntryFault, TheVariants.{BadEntry}}
use Rattle.rio_entry.specs.StoredEntries.{StoredEntries}
use Rattle.rio_entry.specs.{declared.lane.Lane.{Lane}, declared.lane.RowFault.{RowFault, TheVariants.{Basket, Entry}}}

-- there is no such entry: the entries end before it
abbrev pub no_entry_fault : RowFault
no_entry_fault = Basket (BadLast 0)

-- why an entry isn't in the basket that is held: the basket isn't read, or it has no such entry
abbrev pub fault_held : Option StoredEntries → RowFault
fault_held None = no_entry_fault
fault_held (Some (Ok entries)) = no_entry_fault
fault_held (Some (Err fault)) = Basket fault

-- why the bytes of an entry aren't read: the place of the first part that breaks
abbrev pub fault_of_entry : EntryFault → RowFault
fault_of_entry (BadEntry place) = Entry place
fault_of_entry other = Entry 0

-- the fault of the first branch that has one
abbrev pub fault_of_lanes : List Lane → RowFault
fault_of_lanes [] = no_entry_fault
fault_of_lanes (lane ∷ lanes) = unwrap_or lane.fault (fault_of_lanes lanes)

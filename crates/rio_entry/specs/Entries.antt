-- The entry of a branch: which values fit it, and the bytes that are written for them. The values of leaves stand one
-- behind the other; a branch of a class has one object.
use Rattle.std.specs.Prelude.{ℕ, List, [], ◌∷◌, ◌++◌, drop, length, nat_lt, Bool, true, false, ◌&&◌, Result, Ok, Err, if◌then◌else◌}
use Rattle.rio_leaf.specs.declared.branch.Shape.{Shape}
use Rattle.rio_format.specs.{ReaderState.{no_words}, Bodies.{Counters}, Slots.{Slot}, Written.{writing_of}, WrittenBytes.{length_limit}, declared.value.Value.{Value}, declared.class.ClassDef.{ClassDef}}
use Rattle.rio_machine.specs.Entries.{counters_for, given_count}
use Rattle.rio_machine.specs.Rows.{Column, column_slot, leaf_numbers_behind, shape_columns, stands_in}
use Rattle.rio_machine.specs.declared.entry_fault.EntryFault.{EntryFault, TheVariants.{BadRow, TooLarge}}

-- what may stand in a column, where its counter is given or is a leaf before it
abbrev pub entry_slot : Column → List Value → Counters → Slot
entry_slot c counts own = column_slot (counters_for c (given_count counts) own) c

-- ---- values

-- one value for each column, and it fits there
abbrev pub values_fit : List ClassDef → List Column → List Value → List Value → Counters → Bool
values_fit classes [] counts [] own = true
values_fit classes [] counts (v ∷ vs) own = false
values_fit classes (c ∷ cs) counts [] own = false
values_fit classes (c ∷ cs) counts (v ∷ vs) own =
    stands_in classes (entry_slot c counts own) v && values_fit classes cs (drop 1 counts) vs (leaf_numbers_behind c v own)

-- their bytes, one behind the other; places in an object count from the entry's first byte
abbrev pub values_bytes : List ClassDef → List Column → List Value → List Value → Counters → List ℕ
values_bytes classes [] counts row own = []
values_bytes classes (c ∷ cs) counts [] own = []
values_bytes classes (c ∷ cs) counts (v ∷ vs) own =
    ((writing_of classes v).bytes (entry_slot c counts own) 0 no_words).0 ++ values_bytes classes cs (drop 1 counts) vs (leaf_numbers_behind c v own)

-- ---- entries

-- the values of a row that belong to a branch fit it
abbrev pub entry_fits : List ClassDef → Shape → List Value → List Value → Bool
entry_fits classes shape counts row = values_fit classes (shape_columns shape) counts row []

-- the bytes of an entry of a branch
abbrev pub branch_entry_bytes : List ClassDef → Shape → List Value → List Value → List ℕ
branch_entry_bytes classes shape counts row = values_bytes classes (shape_columns shape) counts row []

abbrev pub within_limit : List ℕ → Result (List ℕ) EntryFault
within_limit bytes = if nat_lt length_limit (length bytes) then Err TooLarge else Ok bytes

-- what is written, or why there is no entry
abbrev pub entry_written : List ClassDef → Shape → List Value → List Value → Result (List ℕ) EntryFault
entry_written classes shape counts row =
    if entry_fits classes shape counts row then within_limit (branch_entry_bytes classes shape counts row) else Err BadRow

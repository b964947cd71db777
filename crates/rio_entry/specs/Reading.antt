-- Whether bytes are an entry, what its values say, and the same as relations.
use Rattle.std.specs.{Prelude.{◌≡◌, ◌⊎◌, ◌<◌, ℕ, List, ◌++◌, length, map, Result}, Result.{result_map_both}}
use Rattle.rio_leaf.specs.declared.branch.Shape.{Shape}
use Rattle.rio_num.specs.Meanings.{Spells, Breaks}
use Rattle.rio_format.specs.{ReaderState.{WordsMet, no_words}, declared.fault.ObjFault.{ObjFault}, declared.class.ClassDef.{ClassDef}, declared.value.Value.{Value}}
use Rattle.rio_entry.specs.Leaves.{number_alone}
use Rattle.rio_machine.specs.Entries.{entry_fault, entry_in, entry_values}
use Rattle.rio_machine.specs.declared.entry_fault.EntryFault.{EntryFault, TheVariants.{BadEntry}}

-- Whether the bytes are an entry, or the place of the first part that breaks: the same, with no value kept.
abbrev pub entry_checked : List ClassDef → Shape → List Value → List ℕ → Result (Unit {0}) EntryFault
entry_checked classes shape counts bytes = result_map_both (λ row. tt) (λ e. e) (entry_in classes shape counts bytes)

-- What the values that the bytes of an entry are say, each a number alone, or the place of the first part that breaks.
abbrev pub numbers_of_entry : List ClassDef → Shape → List Value → List ℕ → Result (List Value) EntryFault
numbers_of_entry classes shape counts bytes = result_map_both (λ row. map number_alone row) (λ e. e) (entry_in classes shape counts bytes)

-- ---- as relations

-- the bytes spell these values as an entry of the branch
unfoldable pub SpellsEntry : List ClassDef → Shape → List Value → List Value → List ℕ → Type 0
SpellsEntry classes shape counts row bytes =
    (t : WordsMet) × Spells (entry_values classes shape counts) (length bytes) 0 no_words row bytes t

-- more bytes stand behind those that spell values, from this place on
abbrev pub HasMore : List ClassDef → Shape → List Value → List ℕ → ℕ → Type 0
HasMore classes shape counts bytes place =
    (row : List Value)
    × (front : List ℕ)
    × (more : List ℕ)
    × (t : WordsMet)
    × (bytes ≡ front ++ more)
    × (0 < length more)
    × (place ≡ length front)
    × Spells (entry_values classes shape counts) (length bytes) 0 no_words row front t

-- The bytes break as an entry of the branch, with this fault: what stands before one part is spelled, and this part breaks
-- its rule; or too many bytes are there.
unfoldable pub BreaksEntry : List ClassDef → Shape → List Value → List ℕ → EntryFault → Type 0
BreaksEntry classes shape counts bytes e =
    ((fault : ObjFault) × (e ≡ entry_fault fault) × Breaks (entry_values classes shape counts) 0 no_words bytes fault)
    ⊎ ((place : ℕ) × (e ≡ BadEntry place) × HasMore classes shape counts bytes place)

-- How the reading, spelling and writing of entries belong together.
use Rattle.std.specs.{Prelude.{◌≡◌, ◌⊎◌, ℕ, ℤ, List, [], ◌∷◌, drop, nat_le, Bool, ◌&&◌, Some, None, Ok, IsTrue, is_some}, List.{list_all}, Map.{lookup}}
use Rattle.std.specs.Str.{bytes_eq}
use Rattle.rio_num.specs.At.{AreBytes}
use Rattle.rio_leaf.specs.{declared.branch.Shape.{Shape}, declared.leaf.Dim.{Dim, TheVariants.{Counted}}}
use Rattle.rio_format.specs.{Bodies.{Counters}, Laws.{has_versions}, Objects.{depth_limit}, declared.class.ClassDef.{ClassDef}, Depth.{depth_of}, declared.value.Value.{Value}}
use Rattle.rio_machine.specs.Rows.{Column, leaf_column, object_column, columns_bytes, columns_fit, leaf_numbers_behind, letter_kind, shape_columns}
use Rattle.rio_entry.specs.{Entries.{branch_entry_bytes, entry_fits, entry_written}, Reading.{BreaksEntry, SpellsEntry}}
use Rattle.rio_machine.specs.Entries.{given_count, entry_in}
use Rattle.rio_machine.specs.declared.entry_fault.EntryFault.{EntryFault}

-- ---- one answer

-- the bytes of an entry spell values or break, never both, and in one way
pub record HasOneAnswer (classes : List ClassDef) (shape : Shape) (counts : List Value) (bytes : List ℕ) : Type 0 where
  pub some : ((row : List Value) × SpellsEntry classes shape counts row bytes) ⊎ ((e : EntryFault) × BreaksEntry classes shape counts bytes e)
  pub one_row : (row other : List Value) → SpellsEntry classes shape counts row bytes → SpellsEntry classes shape counts other bytes → row ≡ other
  pub one_fault : (e other : EntryFault) → BreaksEntry classes shape counts bytes e → BreaksEntry classes shape counts bytes other → e ≡ other
  pub apart : (row : List Value) (e : EntryFault) → SpellsEntry classes shape counts row bytes → BreaksEntry classes shape counts bytes e → ⊥

abbrev pub EntriesHaveOneAnswer : Type 0
EntriesHaveOneAnswer = (classes : List ClassDef) (shape : Shape) (counts : List Value) (bytes : List ℕ) → AreBytes bytes → HasOneAnswer classes shape counts bytes

-- ---- what is written

-- objects aren't too deep, and their versions can be written
abbrev pub can_be_read_back : Value → Bool
can_be_read_back v = nat_le (depth_of v) depth_limit && has_versions v

-- What is written for a row spells it, and is read as it, if its objects can be read back.
abbrev pub WrittenEntriesAreRead : Type 0
WrittenEntriesAreRead = (classes : List ClassDef) (shape : Shape) (counts row : List Value) (bytes : List ℕ) → entry_written classes shape counts row ≡ Ok bytes → IsTrue (list_all can_be_read_back row)
    → SpellsEntry classes shape counts row bytes × (entry_in classes shape counts bytes ≡ Ok row)

-- ---- the branches of a tree

-- The count that is given is what the nearest leaf of the counter's name says in the branches before, where the branch
-- itself has none before it.
abbrev pub IsCount : Dim → ℤ → Counters → Counters → Type 0
IsCount (Counted counter times) n own before = lookup (bytes_eq counter) own ≡ None → lookup (bytes_eq counter) before ≡ Some n
IsCount other n own before = Unit {0}

-- A text is counted by nothing, whatever its dimension.
abbrev pub IsCountFor : Column → ℤ → Counters → Counters → Type 0
IsCountFor (leaf_column leaf) n own before = IsTrue (is_some (letter_kind leaf.letter)) → IsCount leaf.dim n own before
IsCountFor (object_column class) n own before = Unit {0}

abbrev pub AreCounts : List Column → List Value → List Value → Counters → Counters → Type 0
AreCounts [] counts row own before = Unit {0}
AreCounts (c ∷ cs) counts [] own before = Unit {0}
AreCounts (c ∷ cs) counts (v ∷ vs) own before = IsCountFor c (given_count counts) own before × AreCounts cs (drop 1 counts) vs (leaf_numbers_behind c v own) before

-- With such counts the entry of one branch is the part of a tree's row that stands behind the leaves of the branches before.
abbrev pub EntryIsPartOfRow : Type 0
EntryIsPartOfRow = (classes : List ClassDef) (shape : Shape) (counts row : List Value) (before : Counters) → AreCounts (shape_columns shape) counts row [] before
    → (entry_fits classes shape counts row ≡ columns_fit classes (shape_columns shape) row before)
    × (branch_entry_bytes classes shape counts row ≡ columns_bytes classes (shape_columns shape) row before)

-- Entries are read: what stands in the bytes of an entry of a branch, from left to right.
use Rattle.std.specs.Prelude.{ℕ, ℤ, pos, List, [], ◌∷◌, drop, length, ◌==◌, Result, Ok, Err, unwrap_or, if◌then◌else◌}
use Rattle.std.specs.{Map.{lookup}, Str.{bytes_eq}}
use Rattle.rio_leaf.specs.declared.branch.Shape.{Shape}
use Rattle.rio_leaf.specs.declared.leaf.Dim.{Dim, TheVariants.{Counted}}
use Rattle.rio_num.specs.{Layout.{done, ◌>>=◌}, Meanings.{read}}
use Rattle.rio_format.specs.{Frames.{ObjLayout, Step}, ReaderState.{no_words, standing}}
use Rattle.rio_format.specs.declared.fault.ObjFault.{ObjFault, TheVariants.{Short, BadCount, UnknownClassWord, UnknownRef, NoCount, BadFlag, CountMismatch, TooDeep, NoMemory}}
use Rattle.rio_format.specs.{Bodies.{Counters}, Objects.{depth_limit, kind_value, object_of}, Accessors.{number_in}, declared.value.Value.{Value, out-Value}, declared.class.ClassDef.{ClassDef}}
use Rattle.rio_machine.specs.Rows.{Column, leaf_column, object_column, leaf_kind, leaf_numbers_behind, shape_columns}
use Rattle.rio_machine.specs.declared.entry_fault.EntryFault.{EntryFault, TheVariants.{BadEntry, NoMemory as OutOfMemory}}

-- ---- faults

-- the entry breaks where the value of a leaf, or the object, does
abbrev pub entry_fault : ObjFault → EntryFault
entry_fault (Short place wanted) = BadEntry place
entry_fault (BadCount place) = BadEntry place
entry_fault (UnknownClassWord place word) = BadEntry place
entry_fault (UnknownRef place word) = BadEntry place
entry_fault (NoCount place) = BadEntry place
entry_fault (BadFlag place) = BadEntry place
entry_fault (CountMismatch place said used) = BadEntry place
entry_fault (TooDeep place) = BadEntry place
entry_fault NoMemory = OutOfMemory

-- ---- counts

-- Beside an entry a count is given for each leaf of its branch: what the leaf's counter says where that stands in an
-- earlier branch. This is the first of them, and 0 where none is given.
abbrev pub given_count : List Value → ℤ
given_count [] = pos 0
given_count (v ∷ vs) = number_in (out-Value v)

-- what a leaf is counted by: the nearest leaf of the counter's name before it in the branch, or else the given count
abbrev pub said_count : Dim → ℤ → Counters → ℤ
said_count (Counted counter times) given own = unwrap_or (lookup (bytes_eq counter) own) given
said_count other given own = given

-- the counter of a leaf, which says this number
abbrev pub counter_saying : Dim → ℤ → Counters
counter_saying (Counted counter times) n = (counter, n) ∷ []
counter_saying other n = []

-- the counter of a column, behind these leaves of its branch, the nearest first
abbrev pub counters_for : Column → ℤ → Counters → Counters
counters_for (leaf_column leaf) given own = counter_saying leaf.dim (said_count leaf.dim given own)
counters_for (object_column class) given own = []

-- ---- entries

-- What stands in a column, behind its counter. A count below 0 breaks it where the values would begin.
abbrev pub column_value : List ClassDef → Counters → Column → ObjLayout Value
column_value classes counters (leaf_column leaf) = kind_value (object_of depth_limit classes) [] (leaf_kind counters leaf)
column_value classes counters (object_column class) = object_of depth_limit classes class

-- the columns one behind the other, behind these leaves of the branch, the nearest first
unfoldable pub columns_values : List ClassDef → List Column → List Value → Counters → ObjLayout (List Value)
columns_values classes [] counts own = done []
columns_values classes (c ∷ cs) counts own = do
  v ← column_value classes (counters_for c (given_count counts) own) c
  vs ← columns_values classes cs (drop 1 counts) (leaf_numbers_behind c v own)
  done (v ∷ vs)

-- the values of an entry of a branch
abbrev pub entry_values : List ClassDef → Shape → List Value → ObjLayout (List Value)
entry_values classes shape counts = columns_values classes (shape_columns shape) counts []

-- what was read, if nothing stands behind it
abbrev pub only_values : {A : Type 0} → Step A → Result A EntryFault
only_values (Ok x) = if length x.1.at.rest == 0 then Ok x.0 else Err (BadEntry x.1.at.place)
only_values (Err fault) = Err (entry_fault fault)

-- The values that the bytes of an entry are, or the place of the first part that breaks. Places count from the entry's
-- first byte.
abbrev pub entry_in : List ClassDef → Shape → List Value → List ℕ → Result (List Value) EntryFault
entry_in classes shape counts bytes = only_values (read (entry_values classes shape counts) (standing 0 bytes no_words))

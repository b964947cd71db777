-- The entries of a row, one for each branch of a tree.
use Rattle.std.specs.Prelude.{ℕ, ◌*◌, List, [], ◌∷◌, length, Bool, true, false, ◌==◌, ◌&&◌, ◌||◌, Option, Some, None, Result, Ok, Err, IsTrue, is_some, if◌then◌else◌}
use Rattle.std.specs.{List.{sum_by}, Map.{lookup}, Str.{bytes_eq}}
use Rattle.rio_leaf.specs.{Leaves.{has_leaf}, Stated.{leaves_of}, declared.branch.BranchDef.{BranchDef}, declared.branch.Shape.{Shape}}
use Rattle.rio_leaf.specs.{declared.leaf.Dim.{Dim, TheVariants.{One, Fixed as Several, Counted}}, declared.leaf.Leaf.{Leaf}}
use Rattle.rio_format.specs.{Bodies.{Counters}, Prims.{width_of}, declared.class.ClassDef.{ClassDef}, declared.kind.Primitive.{Primitive}, declared.value.Value.{Value}}
use Rattle.rio_machine.specs.{Limits.{has_long_entry}, Rows.{columns_bytes, columns_fit, entries_of, letter_kind, row_fits, shape_columns}}
use Rattle.rio_tree.specs.Header.{has_offsets}
use Rattle.rio_entry.specs.Entries.{within_limit}
use Rattle.rio_machine.specs.declared.entry_fault.EntryFault.{EntryFault, TheVariants.{BadRow, TooLarge}}

-- ---- the entries

abbrev pub within_limits : Bool → List (List ℕ) → Result (List (List ℕ)) EntryFault
within_limits long entries = if long then Err TooLarge else Ok entries

-- The bytes of a row in each branch. BadRow where it doesn't fit the branches, and else TooLarge where the entry of one of
-- them is too long.
abbrev pub row_prepared : List ClassDef → List BranchDef → List Value → Result (List (List ℕ)) EntryFault
row_prepared classes branches row =
    if row_fits classes branches row then within_limits (has_long_entry classes branches row) (entries_of classes branches row) else Err BadRow

-- ---- entries of one length

-- how many values a leaf has where that doesn't vary
abbrev pub value_count : Dim → ℕ
value_count One = 1
value_count (Several count) = count
value_count (Counted counter times) = 0

abbrev pub single_width : Option Primitive → ℕ
single_width (Some prim) = width_of prim
single_width None = 0

abbrev pub leaf_size : Leaf → ℕ
leaf_size leaf = value_count leaf.dim * single_width (letter_kind leaf.letter)

-- how long each entry is where entries don't vary in length
abbrev pub entry_size : Shape → ℕ
entry_size shape = sum_by leaf_size (leaves_of shape)

-- an entry varies in length, or is as long as each of its branch
abbrev pub is_sized : Shape → List ℕ → Bool
is_sized shape entry = has_offsets shape || (length entry == entry_size shape)

-- one entry for each branch, of a length that it may have
abbrev pub are_sized : List BranchDef → List (List ℕ) → Bool
are_sized [] [] = true
are_sized [] (entry ∷ entries) = false
are_sized (b ∷ bs) [] = false
are_sized (b ∷ bs) (entry ∷ entries) = is_sized b.shape entry && are_sized bs entries

-- ---- the entry of one branch

-- each of the leaves says a number among these
abbrev pub HaveNumbers : List Leaf → Counters → Type 0
HaveNumbers leaves before = (name : List ℕ) → IsTrue (has_leaf leaves name) → IsTrue (is_some (lookup (bytes_eq name) before))

-- for its values, behind leaves that say these numbers
abbrev pub part_written : List ClassDef → Shape → List Value → Counters → Result (List ℕ) EntryFault
part_written classes shape values before =
    if columns_fit classes (shape_columns shape) values before then within_limit (columns_bytes classes (shape_columns shape) values before)
    else Err BadRow

-- Which rows fit the branches of a tree, and the bytes of their entries.
use Rattle.std.specs.Prelude.{ℕ, ◌*◌, ℤ, pos, List, [], ◌∷◌, ◌++◌, codes, drop, length, map, Option, Some, None, is_some, Bool, true, false, ◌&&◌, if◌then◌else◌}
use Rattle.std.specs.{List.{flat_map}, Map.{lookup}, Str.{bytes_eq}}
use Rattle.rio_leaf.specs.{declared.branch.BranchDef.{BranchDef}, declared.branch.Shape.{Shape, TheVariants.{Leaves, Class}}}
use Rattle.rio_leaf.specs.{declared.leaf.Dim.{Dim, TheVariants.{One, Fixed as Several, Counted}}, declared.leaf.Leaf.{Leaf}}
use Rattle.rio_format.specs.{ReaderState.{no_words}, Bodies.{Counters}, Fits.{fitting_of}, Slots.{Slot, kinded}, Written.{writing_of}, Accessors.{number_in}, declared.value.Value.{Value, out-Value}}
use Rattle.rio_format.specs.{declared.class.ClassDef.{ClassDef}, declared.kind.Kind.{Kind, TheVariants.{Plain, Fixed, Text, Inline, Other}}}
use Rattle.rio_format.specs.declared.kind.Primitive.{Primitive, TheVariants.{I8, I16, I32, I64, U8, U16, U32, U64, Bool as Truth, F32, F64}}

-- ---- leaves

-- the kind of the single values that a letter stands for
abbrev pub letter_kind : ℕ → Option Primitive
letter_kind letter =
    let word = letter ∷ [] in
    if bytes_eq word (codes "B") then Some I8
    else if bytes_eq word (codes "b") then Some U8
    else if bytes_eq word (codes "S") then Some I16
    else if bytes_eq word (codes "s") then Some U16
    else if bytes_eq word (codes "I") then Some I32
    else if bytes_eq word (codes "i") then Some U32
    else if bytes_eq word (codes "L") then Some I64
    else if bytes_eq word (codes "l") then Some U64
    else if bytes_eq word (codes "F") then Some F32
    else if bytes_eq word (codes "D") then Some F64
    else if bytes_eq word (codes "O") then Some Truth
    else None

-- what nothing fits
abbrev pub kind_of_nothing : Kind
kind_of_nothing = Other (pos 0)

-- a list of so many values for each that was counted; a count below 0 leaves nothing that fits
abbrev pub counted_leaf_kind : Primitive → ℕ → Option ℤ → Kind
counted_leaf_kind prim times (Some (pos count)) = Fixed prim (count * times)
counted_leaf_kind prim times other = kind_of_nothing

-- one value, or a list
abbrev pub sized_kind : Counters → Primitive → Dim → Kind
sized_kind counters prim One = Plain prim
sized_kind counters prim (Several count) = Fixed prim count
sized_kind counters prim (Counted counter times) = counted_leaf_kind prim times (lookup (bytes_eq counter) counters)

-- A text, for the letter C, has no dimension.
abbrev pub leaf_kind : Counters → Leaf → Kind
leaf_kind counters leaf = by (letter_kind leaf.letter)
  where
    by : Option Primitive → Kind
    by (Some prim) = sized_kind counters prim leaf.dim
    by None = if bytes_eq (leaf.letter ∷ []) (codes "C") then Text else kind_of_nothing

-- ---- columns

-- what a row has one value for: a leaf, or a branch of objects of a class
pub data Column : Type 0 where
  leaf_column : Leaf → Column
  object_column : List ℕ → Column

abbrev pub shape_columns : Shape → List Column
shape_columns (Leaves leaves) = map leaf_column leaves
shape_columns (Class class) = object_column class ∷ []

abbrev pub columns_of : List BranchDef → List Column
columns_of branches = flat_map (λ b. shape_columns b.shape) branches

-- what may stand in a column, behind leaves that say these numbers
abbrev pub column_slot : Counters → Column → Slot
column_slot counters (leaf_column leaf) = kinded (leaf_kind counters leaf)
column_slot counters (object_column class) = kinded (Inline class)

-- the numbers of the leaves so far, the nearest first
abbrev pub leaf_numbers_behind : Column → Value → Counters → Counters
leaf_numbers_behind (leaf_column leaf) v counters = (leaf.name, number_in (out-Value v)) ∷ counters
leaf_numbers_behind (object_column class) v counters = counters

-- ---- rows

-- each object of a row has its own labels
abbrev pub stands_in : List ClassDef → Slot → Value → Bool
stands_in classes slot v = is_some ((fitting_of classes v).fits slot [])

abbrev pub columns_fit : List ClassDef → List Column → List Value → Counters → Bool
columns_fit classes [] [] counters = true
columns_fit classes [] (v ∷ vs) counters = false
columns_fit classes (c ∷ cs) [] counters = false
columns_fit classes (c ∷ cs) (v ∷ vs) counters =
    stands_in classes (column_slot counters c) v && columns_fit classes cs vs (leaf_numbers_behind c v counters)

-- a row fits the branches: one value for each column, and it fits there
abbrev pub row_fits : List ClassDef → List BranchDef → List Value → Bool
row_fits classes branches row = columns_fit classes (columns_of branches) row []

-- ---- entries

-- the bytes of the values in these columns, one behind the other; places in an object count from the entry's first byte
abbrev pub columns_bytes : List ClassDef → List Column → List Value → Counters → List ℕ
columns_bytes classes [] row counters = []
columns_bytes classes (c ∷ cs) [] counters = []
columns_bytes classes (c ∷ cs) (v ∷ vs) counters =
    ((writing_of classes v).bytes (column_slot counters c) 0 no_words).0 ++ columns_bytes classes cs vs (leaf_numbers_behind c v counters)

-- the numbers of the leaves behind these columns
abbrev pub leaf_numbers_after : List Column → List Value → Counters → Counters
leaf_numbers_after [] row counters = counters
leaf_numbers_after (c ∷ cs) [] counters = counters
leaf_numbers_after (c ∷ cs) (v ∷ vs) counters = leaf_numbers_after cs vs (leaf_numbers_behind c v counters)

abbrev pub entries_from : List ClassDef → List BranchDef → List Value → Counters → List (List ℕ)
entries_from classes [] row counters = []
entries_from classes (b ∷ bs) row counters =
    let columns = shape_columns b.shape in
    columns_bytes classes columns row counters
    ∷ entries_from classes bs (drop (length columns) row) (leaf_numbers_after columns row counters)

-- the bytes of a row's entries, one for each branch
abbrev pub entries_of : List ClassDef → List BranchDef → List Value → List (List ℕ)
entries_of classes branches row = entries_from classes branches row []

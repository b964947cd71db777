-- The rows of a tree in CSV: the line that a row is written as, and the rows of a text. The fields of a line and of a text
-- are those that the crate csv writes and reads, with its own settings but that there is no header.
use Rattle.std.specs.{Prelude.{ℕ, List, [], ◌∷◌, map, Option, Some, None, option_map, option_and_then}, List.{flat_map}}
use Rattle.csv.specs.{Reading.{default_config, records, strip_bom}, Writing.{default_writer, row_text}}
use Rattle.rio_csv.specs.Fields.{field_of, value_in_field}
use Rattle.rio_leaf.specs.{declared.branch.BranchDef.{BranchDef}, declared.branch.Shape.{Shape, TheVariants.{Leaves, Class}}}
use Rattle.rio_format.specs.declared.value.Value.{Value}

-- the line of a row
abbrev pub line_of : List Value → List ℕ
line_of row = row_text default_writer (map field_of row)

-- a branch of objects has no leaves
abbrev pub shape_letters : Shape → List ℕ
shape_letters (Leaves leaves) = map (λ leaf. leaf.letter) leaves
shape_letters (Class class) = []

-- the letters of the leaves, one for each field
abbrev pub letters_of : List BranchDef → List ℕ
letters_of branches = flat_map (λ b. shape_letters b.shape) branches

-- the values of fields, where there is one for each letter, and it spells one of its letter
abbrev pub values_in : List ℕ → List (List ℕ) → Option (List Value)
values_in [] [] = Some []
values_in [] (field ∷ fields) = None
values_in (letter ∷ letters) [] = None
values_in (letter ∷ letters) (field ∷ fields) =
    option_and_then (λ v. option_map (λ vs. v ∷ vs) (values_in letters fields)) (value_in_field letter field)

abbrev pub row_or_empty : Option (List Value) → List Value
row_or_empty (Some row) = row
row_or_empty None = []

-- the row of a record; a bad one is empty
abbrev pub row_in : List ℕ → List (List ℕ) → List Value
row_in letters fields = row_or_empty (values_in letters fields)

-- the rows of a text; a byte order mark at its start is no part of it
abbrev pub rows_in : List BranchDef → List ℕ → List (List Value)
rows_in branches text = map (row_in (letters_of branches)) (records default_config (strip_bom text))

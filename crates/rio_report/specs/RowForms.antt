-- The forms in which the rows of a tree are said: with the objects of a class in the version that is asked, and as lists or as CSV;
-- and why rows can't be had in a version, as the script's scan is refused.
use Rattle.std.specs.{Prelude.{ℕ, ◌++◌, List, [], ◌∷◌, codes, Bool, not, Option, Some, None, Ok, Err, if◌then◌else◌}, Fmt.{decimal}}
use Rattle.rio_format.specs.{declared.class.Base.{Base}, declared.class.ClassDef.{ClassDef}, declared.value.Value.{Value, List as Items}}
use Rattle.rio_machine.specs.declared.refusal.Refusal.{Refusal, TheVariants.{NoSuchClass, KindChanged, NoVersion}}
use Rattle.rio_model.specs.{Declaring.{is_declared}, Mapping.{Mapped}, Resolving.{is_known_version}, ValueText.{text_of_value}}
use Rattle.rio_model.specs.declared.map_fault.MapFault.TheVariants.{KindChanged as Changed}
use Rattle.rio_step.specs.{Refusing.{first_of, refused_if, row_seen_in, rows_seen_in}, Step.{or_unmapped}}
use Rattle.rio_csv.specs.Rows.{line_of}

-- the form that is asked: with the objects of a class in a version, or with all as they are; and as CSV, or as lists
pub record RowForm : Type 0 where
  pub class : Option Base
  pub csv : Bool

abbrev pub row_form : Option Base → Bool → RowForm
row_form class csv = record { class = class; csv = csv }

-- ---- in another version

-- A row with the objects of a class in the version that is asked, if one is asked. One that can't be had stays as it is, but then
-- the refusal is said and no row.
abbrev pub row_had : List ClassDef → Option Base → List Value → List Value
row_had classes class row = or_unmapped row (row_seen_in classes class row)

-- Why something is refused that can't be had: a base or member has changed its kind, or else the class has no such version.
abbrev pub refused_by : {A : Type 0} → Mapped A → Option Refusal
refused_by (Ok x) = None
refused_by (Err (Changed member)) = Some (KindChanged member)
refused_by (Err other) = Some NoVersion

-- The class must be one of the file's list; then the first row that can't be had tells why; and the class must have the version
-- also where there are no values.
abbrev pub refusal_in : List ClassDef → Base → List (List Value) → Option Refusal
refusal_in classes asked rows = first_of (
    refused_if (not (is_declared classes asked.name)) NoSuchClass
    ∷ refused_by (rows_seen_in classes (Some asked) rows)
    ∷ refused_if (not (is_known_version classes asked.name asked.version)) NoVersion
    ∷ []
    )

-- why these rows can't be had so
unfoldable pub rows_refusal : List ClassDef → Option Base → List (List Value) → Option Refusal
rows_refusal classes None rows = None
rows_refusal classes (Some asked) rows = refusal_in classes asked rows

-- ---- as they are said

-- NUMBER ROW
abbrev pub numbered_row : ℕ → List Value → List ℕ
numbered_row n row = decimal n ++ codes " " ++ text_of_value (Items row) ++ codes "\n"

-- the line of a row, as CSV or with its number
abbrev pub row_text : Bool → ℕ → List Value → List ℕ
row_text csv n row = if csv then line_of row else numbered_row n row

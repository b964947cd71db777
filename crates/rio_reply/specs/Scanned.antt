-- What is said of a scan: its first line, and a line of each row; or of one that isn't read, why.
use Rattle.std.specs.{Prelude.{◌≡◌, ℕ, ◌+◌, List, [], ◌∷◌, ◌++◌, codes, length, Bool, true, false, Result, Ok, if◌then◌else◌}, Fmt.{decimal}}
use Rattle.rio_num.specs.{Printed.{name_text, numbered, with_number}, Reading.{◌>>=◌}}
use Rattle.rio_key.specs.BasketTexts.{basket_fault_text}
use Rattle.rio_entry.specs.declared.lane.RowFault.{RowFault, TheVariants.{Basket, Entry}}
use Rattle.rio_format.specs.{declared.class.Base.{Base}, declared.class.ClassDef.{ClassDef}, declared.value.Value.{Value}}
use Rattle.rio_model.specs.{Mapping.{Mapped}, ValueText.{text_of_value}}
use Rattle.rio_machine.specs.State.{Row}
use Rattle.rio_step.specs.{Refusing.{row_seen_in}, ReplyText.{row_lines, row_text, text_of}, Step.{rows_told}}
use Rattle.std.specs.Prelude.{Some}

-- ok scan NAME COUNT
abbrev pub scan_start : List ℕ → ℕ → List ℕ
scan_start name count = codes "ok scan " ++ name_text name ++ numbered count ++ codes "\n"

-- NUMBER ROW
abbrev pub row_line : ℕ → Row → List ℕ
row_line n row = decimal n ++ codes " " ++ row_text row ++ codes "\n"

-- values with a comma and a space before each, but for the first of a row
abbrev pub values_behind : Bool → List Value → List ℕ
values_behind first [] = []
values_behind first (v ∷ vs) = (if first then [] else codes ", ") ++ text_of_value v ++ values_behind false vs

-- a text, and the line of a row behind it with the objects of the class in the version; or why the row can't be had so
abbrev pub row_line_as : List ClassDef → Base → ℕ → List ℕ → Row → Mapped (List ℕ)
row_line_as classes asked n before row = row_seen_in classes (Some asked) row >>= λ seen. Ok (before ++ row_line n seen)

-- values that were had, and those behind them
abbrev pub seen_behind : Row → Mapped Row → Mapped Row
seen_behind before rest = rest >>= λ row. Ok (before ++ row)

-- ---- a row that isn't read

abbrev pub row_fault_text : RowFault → List ℕ
row_fault_text (Basket fault) = basket_fault_text fault
row_fault_text (Entry place) = with_number (codes "BadEntry") place

-- NUMBER fault KIND
abbrev pub row_fault_line : ℕ → RowFault → List ℕ
row_fault_line n fault = decimal n ++ codes " fault " ++ row_fault_text fault ++ codes "\n"

-- ---- laws

-- A scan is its first line and the lines of its rows, numbered from 0; a row more is a line more.
pub record ScansAreLines : Type 0 where
  pub whole : (name : List ℕ) (rows : List Row) → text_of (rows_told name rows) ≡ scan_start name (length rows) ++ row_lines 0 rows
  pub none : (n : ℕ) → row_lines n [] ≡ []
  pub more : (n : ℕ) (rows : List Row) (row : Row) → row_lines n (rows ++ row ∷ []) ≡ row_lines n rows ++ row_line (n + length rows) row

-- What is printed of a row: its values; or its number and why it can't be had any more in the form that is asked, where the
-- passes before found that it is.
use Rattle.std.specs.{Prelude.{ℕ, List, [], ◌∷◌, ◌++◌, codes, Option, Some, None, Ok, Err, Bool, false, if◌then◌else◌}, Fmt.{decimal}}
use Rattle.rio_format.specs.declared.value.Value.{Value}
use Rattle.rio_tree.specs.declared.refusal.BranchRefusal.{BranchRefusal}
use Rattle.rio_model.specs.{Mapping.{Mapped}, ValueText.{text_of_value}}
use Rattle.rio_model.specs.declared.map_fault.MapFault.{MapFault, TheVariants.{KindChanged, NoVersion, NoMemory as OutOfMemory}}
use Rattle.rio_num.specs.Printed.{name_text}
use Rattle.rio_report.specs.RowForms.{row_text}

-- ---- its values

-- the texts of values behind others, or at the front
abbrev pub values_behind : Bool → List Value → List ℕ
values_behind first [] = []
values_behind first (v ∷ vs) = (if first then [] else codes ", ") ++ text_of_value v ++ values_behind false vs

-- whether the values behind these stand at the front
abbrev pub first_after : Bool → List Value → Bool
first_after first [] = first
first_after first (v ∷ vs) = false

-- the values of a branch, if it isn't refused
abbrev pub values_unrefused : Option BranchRefusal → List Value → List Value
values_unrefused None vs = vs
values_unrefused (Some refusal) vs = []

-- ---- of a row that can't be had

abbrev pub map_fault_text : MapFault → List ℕ
map_fault_text (KindChanged member) = codes "KindChanged " ++ name_text member
map_fault_text NoVersion = codes "NoVersion"
map_fault_text OutOfMemory = []

-- the line of a row in the form that is asked, or NUMBER fault KIND
abbrev pub had_line : Bool → ℕ → Mapped (List Value) → List ℕ
had_line csv entry (Ok row) = row_text csv entry row
had_line csv entry (Err fault) = decimal entry ++ codes " fault " ++ map_fault_text fault ++ codes "\n"

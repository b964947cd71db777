-- Texts of one line.
use Rattle.std.specs.{Prelude.{ℕ, ◌≤◌, List}, List.{All}}
use Rattle.rio_format.specs.{declared.class.ClassDef.{ClassDef}, declared.value.Value.{Value}}
use Rattle.rio_model.specs.{ClassText.{text_of_class}, ValueText.{text_of_value}}

-- no line feed, and no other byte below a space
abbrev pub IsOneLine : List ℕ → Type 0
IsOneLine text = All (λ b. 32 ≤ b) text

abbrev pub ValuesAreOneLine : Type 0
ValuesAreOneLine = (v : Value) → IsOneLine (text_of_value v)

abbrev pub ClassesAreOneLine : Type 0
ClassesAreOneLine = (class : ClassDef) → IsOneLine (text_of_class class)

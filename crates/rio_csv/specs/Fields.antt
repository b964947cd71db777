-- The fields of a row in CSV: what a value is written as, and what a field is read as.
use Rattle.std.specs.{Prelude.{ℕ, List, [], ◌∷◌, codes, Option, Some, None, option_map, option_and_then, Bool, true, false, ◌==◌, if◌then◌else◌}, List.{list_any}, Str.{bytes_eq}}
use Rattle.rio_csv.specs.declared.field.FieldKind.{FieldKind, TheVariants.{Number, Truth, FourBytes, EightBytes, Text}}
use Rattle.rio_model.specs.ValueText.{text_of_value}
use Rattle.rio_token.specs.{declared.words.Bits.{Bits, TheVariants.{Four, Eight}}, Words.{bits_of, number_of}}
use Rattle.rio_format.specs.{Accessors.{text_bytes_in}, declared.value.Value.{Value, Int, Bits32, Bits64, Bool as Truthful, Text as Texted}}

-- ---- written

abbrev pub own_bytes_or : Option (List ℕ) → List ℕ → List ℕ
own_bytes_or (Some text) printed = text
own_bytes_or None printed = printed

-- a text is its own bytes, any other value is printed
abbrev pub field_of : Value → List ℕ
field_of v = own_bytes_or (text_bytes_in v) (text_of_value v)

-- ---- read

abbrev pub is_number_letter : ℕ → Bool
is_number_letter letter = list_any (λ c. letter == c) (codes "BbSsIiLl")

-- what the fields of a letter spell
abbrev pub field_kind : ℕ → Option FieldKind
field_kind letter =
    let word = letter ∷ [] in
    if bytes_eq word (codes "O") then Some Truth
    else if bytes_eq word (codes "F") then Some FourBytes
    else if bytes_eq word (codes "D") then Some EightBytes
    else if bytes_eq word (codes "C") then Some Text
    else if is_number_letter letter then Some Number
    else None

abbrev pub truth_in : List ℕ → Option Value
truth_in field =
    if bytes_eq field (codes "true") then Some (Truthful true)
    else if bytes_eq field (codes "false") then Some (Truthful false)
    else None

abbrev pub four_bytes : Bits → Option Value
four_bytes (Four n) = Some (Bits32 n)
four_bytes (Eight n) = None

abbrev pub eight_bytes : Bits → Option Value
eight_bytes (Four n) = None
eight_bytes (Eight n) = Some (Bits64 n)

-- the value that a field of a kind spells
abbrev pub value_of_kind : FieldKind → List ℕ → Option Value
value_of_kind Number field = option_map Int (number_of field)
value_of_kind Truth field = truth_in field
value_of_kind FourBytes field = option_and_then four_bytes (bits_of field)
value_of_kind EightBytes field = option_and_then eight_bytes (bits_of field)
value_of_kind Text field = Some (Texted field)

-- the value that a field spells for a leaf of the letter
abbrev pub value_in_field : ℕ → List ℕ → Option Value
value_in_field letter field = option_and_then (λ kind. value_of_kind kind field) (field_kind letter)

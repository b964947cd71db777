-- What a class list says in the parts of its objects, by their names. A list or text is empty, and a number 0, where there is
-- none.
use Rattle.std.specs.{Prelude.{ℕ, ℤ, pos, List, [], Option, option_and_then, unwrap_or}, Option.{option_map_or}}
use Rattle.rio_format.specs.{Accessors.{integer_in, list_in, pointed_object, part_of, parts_of, text_bytes_in, unsigned_integer_in}, declared.value.Part.{Part}, declared.value.Value.{Value}}

-- ---- one value

-- the parts of an object of the class in the version, where it begins behind a pointer
abbrev pub parts_behind : List ℕ → ℤ → Value → Option (List Part)
parts_behind class version pointer = option_and_then (parts_of class version) (pointed_object pointer)

-- the values in a list
abbrev pub items_in : Value → List Value
items_in v = unwrap_or (list_in v) []

abbrev pub text_in : Value → List ℕ
text_in v = unwrap_or (text_bytes_in v) []

-- Numbers of 32 bits. Another number counts as 0; it is never read where one of 32 bits stands.
abbrev pub signed_in : Value → ℤ
signed_in v = unwrap_or (integer_in 32 v) (pos 0)

abbrev pub unsigned_in : Value → ℕ
unsigned_in v = unwrap_or (unsigned_integer_in 32 v) 0

-- ---- the parts of an object

-- what stands in the part of that name
abbrev pub list_of : List ℕ → List Part → List Value
list_of name parts = option_map_or items_in (part_of name parts) []

abbrev pub text_in_part : List ℕ → List Part → List ℕ
text_in_part name parts = option_map_or text_in (part_of name parts) []

abbrev pub signed_of : List ℕ → List Part → ℤ
signed_of name parts = option_map_or signed_in (part_of name parts) (pos 0)

abbrev pub unsigned_of : List ℕ → List Part → ℕ
unsigned_of name parts = option_map_or unsigned_in (part_of name parts) 0

-- the parts of the first base, where it is an object of the class in the version
abbrev pub base_parts : List ℕ → ℤ → List Part → Option (List Part)
base_parts class version parts = option_and_then (parts_of class version) (part_of [] parts)

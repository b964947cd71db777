-- What stands in a value: a number, a text, a list, or an object with its parts.
use Rattle.std.specs.{Prelude.{ℕ, ℤ, pos, ◌^◌, List, [], Bool, ◌&&◌, nat_lt, find, Option, Some, None, option_map, if◌then◌else◌}, Ordering.{int_eq}}
use Rattle.std.specs.Str.{bytes_eq}
use Rattle.rio_format.specs.{Integers.{fits_signed}, declared.value.Part.{Part}, declared.value.Value.{Value, out-Value, TheOpen.{Value-F, Int, Bool as Truth, Text, List as Items, Object, Pointed}}}

-- ---- numbers, texts, lists

-- the number that an integer is; 0 of another value
abbrev pub number_in : Value-F Value Part → ℤ
number_in (Int z) = z
number_in other = pos 0

abbrev pub layer_integer : ℕ → Value-F Value Part → Option ℤ
layer_integer bits (Int z) = if fits_signed bits z then Some z else None
layer_integer bits other = None

-- a signed integer of so many bits
abbrev pub integer_in : ℕ → Value → Option ℤ
integer_in bits v = layer_integer bits (out-Value v)

abbrev pub layer_unsigned_integer : ℕ → Value-F Value Part → Option ℕ
layer_unsigned_integer bits (Int (pos n)) = if nat_lt n (2 ^ bits) then Some n else None
layer_unsigned_integer bits other = None

-- an integer without a sign, of so many bits
abbrev pub unsigned_integer_in : ℕ → Value → Option ℕ
unsigned_integer_in bits v = layer_unsigned_integer bits (out-Value v)

abbrev pub layer_truth : Value-F Value Part → Option Bool
layer_truth (Truth b) = Some b
layer_truth other = None

-- a truth value
abbrev pub truth_in : Value → Option Bool
truth_in v = layer_truth (out-Value v)

abbrev pub layer_text_bytes : Value-F Value Part → Option (List ℕ)
layer_text_bytes (Text text) = Some text
layer_text_bytes other = None

-- a text
abbrev pub text_bytes_in : Value → Option (List ℕ)
text_bytes_in v = layer_text_bytes (out-Value v)

abbrev pub layer_list : Value-F Value Part → Option (List Value)
layer_list (Items items) = Some items
layer_list other = None

-- a list
abbrev pub list_in : Value → Option (List Value)
list_in v = layer_list (out-Value v)

-- ---- objects

abbrev pub layer_object : Value-F Value Part → Option Value
layer_object (Pointed label object) = Some object
layer_object other = None

-- the object that begins behind a pointer
abbrev pub pointed_object : Value → Option Value
pointed_object v = layer_object (out-Value v)

abbrev pub layer_class : Value-F Value Part → List ℕ
layer_class (Object class version parts) = class
layer_class other = []

-- the class of an object; empty where there is no object
abbrev pub class_of_object : Value → List ℕ
class_of_object v = layer_class (out-Value v)

abbrev pub layer_version : Value-F Value Part → ℤ
layer_version (Object class version parts) = version
layer_version other = pos 0

-- its version; 0 where there is no object
abbrev pub version_of_object : Value → ℤ
version_of_object v = layer_version (out-Value v)

abbrev pub layer_own_parts : Value-F Value Part → List Part
layer_own_parts (Object class version parts) = parts
layer_own_parts other = []

-- the object's own parts
abbrev pub own_parts : Value → List Part
own_parts v = layer_own_parts (out-Value v)

abbrev pub layer_parts : List ℕ → ℤ → Value-F Value Part → Option (List Part)
layer_parts class version (Object c v parts) = if bytes_eq c class && int_eq v version then Some parts else None
layer_parts class version other = None

-- the parts of an object of the class in the version
abbrev pub parts_of : List ℕ → ℤ → Value → Option (List Part)
parts_of class version v = layer_parts class version (out-Value v)

-- the value of the first part of that name
abbrev pub part_of : List ℕ → List Part → Option Value
part_of name parts = option_map (λ p. p.value) (find (λ p. bytes_eq p.name name) parts)

-- What the members of an object in a header say.
use Rattle.std.specs.{Prelude.{ℕ, ℤ, pos, negsuc, List, codes, take, Bool, true, false, Option, Some, None, is_some, option_and_then, if◌then◌else◌}, List.{list_all}}
use Rattle.std.specs.Str.{bytes_eq}
use Rattle.rio_num.specs.Reading.{some_if}
use Rattle.rio_format.specs.{Accessors.{class_of_object, integer_in, list_in, own_parts, part_of, text_bytes_in, truth_in}, PartsWithBases.{member_in}}
use Rattle.rio_format.specs.{declared.value.Part.{Part}, declared.value.Value.{Value, out-Value, TheOpen.{Value-F, Pointed, Null, Back}}}

-- one after the other, where each is there
infixl 10 ◌>>=◌
abbrev pub ◌>>=◌ : {A B : Type 0} → Option A → (A → Option B) → Option B
o >>= f = option_and_then f o

-- a number that isn't below 0
abbrev pub natural : ℤ → Option ℕ
natural (pos n) = Some n
natural (negsuc n) = None

-- whether a value is a signed integer of so many bits
abbrev pub is_integer : ℕ → Value → Bool
is_integer bits v = is_some (integer_in bits v)

-- An array whose first items, so many, are signed integers of so many bits. The items after these may be anything.
abbrev pub integers_in : ℕ → ℕ → Value → Option (List Value)
integers_in bits used v = option_and_then (λ items. some_if (list_all (is_integer bits) (take used items)) items) (list_in v)

abbrev pub layer_is_pointer : Value-F Value Part → Bool
layer_is_pointer Null = true
layer_is_pointer (Pointed label object) = true
layer_is_pointer (Back label) = true
layer_is_pointer other = false

-- a pointer: to nothing, to an object that begins there, or to one that began before
abbrev pub is_pointer : Value → Bool
is_pointer v = layer_is_pointer (out-Value v)

-- these items, if all of them are pointers
abbrev pub if_pointers : List Value → Option (List Value)
if_pointers items = some_if (list_all is_pointer items) items

-- the items of a TObjArray, whatever its version, if all of them are pointers
abbrev pub pointers_in : Value → Option (List Value)
pointers_in v =
    if bytes_eq (class_of_object v) (codes "TObjArray") then option_and_then if_pointers (option_and_then list_in (part_of (codes "items") (own_parts v))) else None

-- what the member of that name is: an integer, a truth value, a text, an array whose first items are integers, an array of
-- pointers
abbrev pub integer_member : ℕ → List ℕ → Value → Option ℤ
integer_member bits name v = option_and_then (integer_in bits) (member_in name v)

abbrev pub truth_member : List ℕ → Value → Option Bool
truth_member name v = option_and_then truth_in (member_in name v)

abbrev pub name_member : List ℕ → Value → Option (List ℕ)
name_member name v = option_and_then text_bytes_in (member_in name v)

abbrev pub integers_member : ℕ → List ℕ → ℕ → Value → Option (List Value)
integers_member bits name used v = option_and_then (integers_in bits used) (member_in name v)

abbrev pub pointers_member : List ℕ → Value → Option (List Value)
pointers_member name v = option_and_then pointers_in (member_in name v)

-- Values as they are printed, on one line.
use Rattle.std.specs.{Prelude.{ℕ, ℤ, List, [], ◌∷◌, ◌++◌, codes, Bool, true, false, ◌==◌, ◌&&◌, length, if◌then◌else◌}, Fmt.{decimal, signed_decimal}}
use Rattle.byteorder.specs.Endian.{big_bytes}
use Rattle.rio_num.specs.Printed.{hex_text, name_text, string_text}
use Rattle.rio_format.specs.{declared.value.Part.{Part}, declared.value.Value.{Value, TheOpen.{Value-F, Int, Bits32, Bits64, Bool as Truth, Text, List as Items, Object, Pointed, Null, Back, Opaque}, TheFolds.{fold-Value}}}
use Rattle.rio_model.specs.Lists.{separated}

abbrev pub truth_text : Bool → List ℕ
truth_text b = if b then codes "true" else codes "false"

-- the lowest bytes of a bit pattern, in hexadecimal
abbrev pub bits_text : ℕ → ℕ → List ℕ
bits_text bytes n = codes "0x" ++ hex_text (big_bytes bytes n)

-- CLASS#VERSION
abbrev pub class_text : List ℕ → ℤ → List ℕ
class_text class version = name_text class ++ codes "#" ++ signed_decimal version

-- @LABEL
abbrev pub label_text : ℕ → List ℕ
label_text label = codes "@" ++ decimal label

-- ---- parts

-- what is printed of a value, and whether it can be a base: an object, or one that isn't read
pub record PrintedValue : Type 0 where
  pub text : List ℕ
  pub is_object : Bool

-- what is printed of a part
pub record PrintedPart : Type 0 where
  pub name : List ℕ
  pub value : PrintedValue

-- a part without a name that can be a base
abbrev pub may_be_base : PrintedPart → Bool
may_be_base p = length p.name == 0 && p.value.is_object

-- NAME: VALUE, or the value alone
abbrev pub part_text : Bool → PrintedPart → List ℕ
part_text alone p = if alone then p.value.text else name_text p.name ++ codes ": " ++ p.value.text

-- The texts of the parts of an object. The bases are those at the front that can be one, and stand alone. Any other part
-- has its name before it, also an empty one.
abbrev pub part_texts : Bool → List PrintedPart → List (List ℕ)
part_texts front [] = []
part_texts front (p ∷ ps) = let alone = front && may_be_base p in part_text alone p ∷ part_texts alone ps

-- ---- values

-- no object
abbrev pub leaf_text : List ℕ → PrintedValue
leaf_text text = record { text = text; is_object = false }

abbrev pub object_text : List ℕ → PrintedValue
object_text text = record { text = text; is_object = true }

-- what stands between the braces of an object
abbrev pub between_braces : List PrintedPart → List ℕ
between_braces parts = separated (λ text. text) (part_texts true parts)

-- one layer of a value, with what is printed of each child in its place
abbrev pub text_step : Value-F PrintedValue PrintedPart → PrintedValue
text_step (Int z) = leaf_text (signed_decimal z)
text_step (Bits32 n) = leaf_text (bits_text 4 n)
text_step (Bits64 n) = leaf_text (bits_text 8 n)
text_step (Truth b) = leaf_text (truth_text b)
text_step (Text text) = leaf_text (string_text text)
text_step (Items items) = leaf_text (codes "[" ++ separated (λ item. item.text) items ++ codes "]")
text_step (Object class version parts) =
    object_text (class_text class version ++ codes "{" ++ between_braces parts ++ codes "}")
text_step (Pointed label object) = leaf_text (label_text label ++ codes "=" ++ object.text)
text_step Null = leaf_text (codes "null")
text_step (Back label) = leaf_text (label_text label)
text_step (Opaque class len) =
    object_text (codes "opaque(" ++ name_text class ++ codes ", " ++ decimal len ++ codes ")")

unfoldable pub printed_value : Value → PrintedValue
printed_value = fold-Value PrintedValue PrintedPart text_step (λ p. record { name = p.name; value = p.value })

abbrev pub printed_part : Part → PrintedPart
printed_part p = record { name = p.name; value = printed_value p.value }

unfoldable pub text_of_value : Value → List ℕ
text_of_value v = (printed_value v).text

-- The one spelling that is written for a value that fits.
use Rattle.std.specs.Prelude.{ℕ, ◌+◌, ◌^◌, ℤ, pos, List, [], ◌∷◌, ◌++◌, length, slice_index, codes, Bool, true, false, Option, Some, None}
use Rattle.std.specs.Int.{Width, w8, w16, w32, w64, cast_unsigned}
use Rattle.byteorder.specs.Endian.{big_bytes}
use Rattle.rio_num.specs.Text.{text_bytes}
use Rattle.rio_format.specs.{declared.class.ClassDef.{ClassDef}, declared.kind.Kind.TheVariants.{Plain, Counter, Fixed, Counted, Text as Texted, Inline}}
use Rattle.rio_format.specs.declared.kind.Primitive.{Primitive, TheVariants.{I8, I16, I32, I64, U8, U16, U32, U64, Bool as Boolean, F32, F64}}
use Rattle.rio_format.specs.declared.value.Value.{Value, TheOpen.{Value-F, Int, Bits32, Bits64, Bool as Truth, Text, List as Items, Object, Pointed, Null, Back, Opaque}, TheFolds.{fold-Value}}
use Rattle.rio_format.specs.{Bodies.{Form, bare, numbers, headed, form_of, Body, described, listed, arrayed, opaque}, Prims.{width_of}}
use Rattle.rio_format.specs.{Slots.{Slot, kinded, based, flags, any_pointer, link, many, Field, declared_body, body_fields}, ReaderState.{WordsMet, no_words, with_label}, Writer.{Writer, class_bytes}}

-- what is to be known of a value: what is written for it in a slot
pub record Writing : Type 0 where
  -- the class of an object
  pub class : List ℕ
  -- the number of a list's items
  pub count : ℕ
  pub bytes : Slot → Writer

-- these bytes, whatever was met before
abbrev pub just : List ℕ → Writer
just bytes p t = (bytes, t)

-- one behind the other
abbrev pub joined_output : List ℕ × WordsMet → List ℕ × WordsMet → List ℕ × WordsMet
joined_output a b = (a.0 ++ b.0, b.1)

-- what f writes, and behind it what g writes
abbrev pub both : Writer → Writer → Writer
both f g p t = let a = f p t in joined_output a (g (p + length a.0) a.1)

abbrev pub all : Slot → List Writing → Writer
all slot [] = just []
all slot (w ∷ ws) = both (w.bytes slot) (all slot ws)

-- ---- numbers and lists

abbrev pub width_in_bits : Primitive → Width
width_in_bits I8 = w8
width_in_bits I16 = w16
width_in_bits I32 = w32
width_in_bits I64 = w64
width_in_bits U8 = w8
width_in_bits U16 = w16
width_in_bits U32 = w32
width_in_bits U64 = w64
width_in_bits Boolean = w8
width_in_bits F32 = w32
width_in_bits F64 = w64

abbrev pub int_bytes : ℤ → Slot → List ℕ
int_bytes z (kinded (Plain prim)) = big_bytes (width_of prim) (cast_unsigned (width_in_bits prim) z)
int_bytes z (kinded Counter) = big_bytes 4 (cast_unsigned w32 z)
int_bytes z flags = big_bytes 4 (cast_unsigned w32 z)
int_bytes z other = []

-- the byte 0 for nothing, and else the byte 1 and the values
abbrev pub counted_bytes : Primitive → List Writing → Writer
counted_bytes prim [] = just (0 ∷ [])
counted_bytes prim (w ∷ ws) = both (just (1 ∷ [])) (all (kinded (Plain prim)) (w ∷ ws))

abbrev pub link_bytes : List Writing → Writer
link_bytes (pointer ∷ text ∷ []) = both (pointer.bytes any_pointer) (text.bytes (kinded Texted))
link_bytes other = just []

abbrev pub list_bytes : List Writing → Slot → Writer
list_bytes items (kinded (Fixed prim count)) = all (kinded (Plain prim)) items
list_bytes items (kinded (Counted prim counter)) = counted_bytes prim items
list_bytes items link = link_bytes items
list_bytes items (many slot) = all slot items
list_bytes items other = just []

-- ---- pointers

-- what f writes once the object whose count word stands at the place has the next label
abbrev pub labelled : ℕ → Writer → Writer
labelled place f p t = f p (with_label t place)

-- a byte count before the bytes that it counts
abbrev pub counted : List ℕ × WordsMet → List ℕ × WordsMet
counted a = (big_bytes 4 (length a.0 + 2 ^ 30) ++ a.0, a.1)

-- a byte count, a class word, and the object
abbrev pub pointed_bytes : Writing → Writer
pointed_bytes object p t = counted (both (class_bytes object.class) (labelled p (object.bytes (kinded (Inline object.class)))) (p + 4) t)

-- a reference to the place of the label's count word
abbrev pub reference_bytes : ℕ → Writer
reference_bytes label p t = (big_bytes 4 (slice_index t.labels label + 2), t)

-- ---- objects

abbrev pub fields_bytes : List Field → List Writing → Writer
fields_bytes [] ws = just []
fields_bytes (f ∷ fs) [] = just []
fields_bytes (f ∷ fs) (w ∷ ws) = both (w.bytes f.slot) (fields_bytes fs ws)

abbrev pub described_bytes : Option (List Field) → List Writing → Writer
described_bytes None parts = just []
described_bytes (Some fields) parts = fields_bytes fields parts

-- base, name, count and items
abbrev pub listed_bytes : List Writing → Writer
listed_bytes (base ∷ name ∷ items ∷ []) =
    both (base.bytes (based (codes "TObject") (pos 1))) (both (name.bytes (kinded Texted)) (both (just (big_bytes 4 items.count)) (items.bytes (many link))))
listed_bytes other = just []

-- base, name, count, lower bound and items
abbrev pub arrayed_bytes : List Writing → Writer
arrayed_bytes (base ∷ name ∷ lower ∷ items ∷ []) =
    both (base.bytes (based (codes "TObject") (pos 1))) (both (name.bytes (kinded Texted))
    (both (just (big_bytes 4 items.count)) (both (lower.bytes (kinded (Plain I32))) (items.bytes (many any_pointer)))))
arrayed_bytes other = just []

abbrev pub body_bytes : Option Body → List Writing → Writer
body_bytes None parts = just []
body_bytes (Some (described c)) parts = described_bytes (body_fields (Some (described c))) parts
body_bytes (Some listed) parts = listed_bytes parts
body_bytes (Some arrayed) parts = arrayed_bytes parts
body_bytes (Some opaque) parts = just []

-- the version, without a byte count, and the parts: fPid only where it is one of them
abbrev pub bare_bytes : List Writing → Writer
bare_bytes (id ∷ bits ∷ []) = both (just (big_bytes 2 1)) (both (id.bytes (kinded (Plain U32))) (bits.bytes flags))
bare_bytes (id ∷ bits ∷ pid ∷ []) =
    both (just (big_bytes 2 1)) (both (id.bytes (kinded (Plain U32))) (both (bits.bytes flags) (pid.bytes (kinded (Plain U16)))))
bare_bytes other = just []

abbrev pub number_array_bytes : Primitive → List Writing → Writer
number_array_bytes prim (items ∷ []) = both (just (big_bytes 4 items.count)) (items.bytes (many (kinded (Plain prim))))
number_array_bytes prim other = just []

abbrev pub headed_bytes : ℤ → Writer → Writer
headed_bytes version body p t = counted (both (just (big_bytes 2 (cast_unsigned w16 version))) body (p + 4) t)

abbrev pub form_bytes : List ClassDef → List ℕ → ℤ → Form → List Writing → Writer
form_bytes classes class version bare parts = bare_bytes parts
form_bytes classes class version (numbers prim) parts = number_array_bytes prim parts
form_bytes classes class version headed parts = headed_bytes version (body_bytes (declared_body classes class version) parts)

-- ---- values

abbrev pub plainly : (Slot → List ℕ) → Writing
plainly bytes = record { class = []; count = 0; bytes = λ slot. just (bytes slot) }

abbrev pub truth_byte : Bool → ℕ
truth_byte true = 1
truth_byte false = 0

-- what is written for a value, by what is written for each value that stands in it
abbrev pub writing_step : List ClassDef → Value-F Writing Writing → Writing
writing_step classes (Int z) = plainly (int_bytes z)
writing_step classes (Bits32 n) = plainly (λ slot. big_bytes 4 n)
writing_step classes (Bits64 n) = plainly (λ slot. big_bytes 8 n)
writing_step classes (Truth b) = plainly (λ slot. truth_byte b ∷ [])
writing_step classes (Text t) = plainly (λ slot. text_bytes t)
writing_step classes (Items items) = record { class = []; count = length items; bytes = list_bytes items }
writing_step classes (Object class version parts) = record { class = class; count = 0; bytes = λ slot. form_bytes classes class version (form_of class) parts }
writing_step classes (Pointed label object) = record { class = []; count = 0; bytes = λ slot. pointed_bytes object }
writing_step classes Null = plainly (λ slot. big_bytes 4 0)
writing_step classes (Back label) = record { class = []; count = 0; bytes = λ slot. reference_bytes label }
writing_step classes (Opaque class len) = plainly (λ slot. [])

abbrev pub writing_of : List ClassDef → Value → Writing
writing_of classes = fold-Value Writing Writing (writing_step classes) (λ p. p.value)

-- the bytes that are written for an object whose first byte has the place
abbrev pub written_form : List ClassDef → ℕ → Value → List ℕ
written_form classes start v = let w = writing_of classes v in (w.bytes (kinded (Inline w.class)) start no_words).0

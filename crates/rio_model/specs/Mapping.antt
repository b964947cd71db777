-- Objects as their class has them in another version. Each object of the class, at any depth, gets the bases and members of
-- the asked version: those of its own that have the names, converted, and zeros for the others.
use Rattle.std.specs.Prelude.{ℕ, zero, suc, ◌+◌, ◌*◌, ◌^◌, ℤ, pos, List, [], ◌∷◌, ◌++◌, length, map, replicate, Bool, true, false, ◌==◌, ◌&&◌, not, Option, Some, None, option_and_then, Result, Ok, Err, find, if◌then◌else◌}
use Rattle.std.specs.{Int.{int_rem_euclid, int_wrap}, List.{list_any}, Option.{option_map, option_map_or, option_or}, Ordering.{int_eq}, Str.{bytes_eq}}
use Rattle.rio_num.specs.Reading.{◌>>=◌}
use Rattle.rio_format.specs.{Classes.{find_in, newest_in}, declared.class.Base.{Base}, declared.class.ClassDef.{ClassDef}, declared.class.Member.{Member}}
use Rattle.rio_format.specs.declared.kind.Kind.{Kind, TheVariants.{Plain, Counter, Fixed, Counted, Text, Inline, Pointer, Other}}
use Rattle.rio_format.specs.{declared.kind.Primitive.{Primitive, TheVariants.{I8, I16, I32, I64, Bool as Truth, F32, F64}}, declared.value.Part.{Part}}
use Rattle.rio_format.specs.declared.value.Value.{Value, out-Value, TheOpen.{Value-F, Int, Bits32, Bits64, Bool as Boolean, Text as Chars, List as Items, Object, Pointed, Null, Back, Opaque}, TheFolds.{fold-Value}}
use Rattle.rio_format.specs.declared.value.Value as whole
use Rattle.rio_format.specs.{Bodies.{part}, Prims.{width_of}, Slots.{Slot, kinded, based, flags, any_pointer, link, many, Field, fields_of}, Written.{width_in_bits}}
use Rattle.rio_model.specs.Resolving.{built_in_version}
use Rattle.rio_model.specs.declared.map_fault.MapFault.{MapFault, TheVariants.{KindChanged, NoVersion}}

-- what is had, or the first base or member that can't be
abbrev pub Mapped : Type 0 → Type 0
Mapped A = Result A MapFault

abbrev pub or_changed : {A : Type 0} → List ℕ → Option A → Mapped A
or_changed name (Some x) = Ok x
or_changed name None = Err (KindChanged name)

-- ---- single values

abbrev pub is_signed : Primitive → Bool
is_signed I8 = true
is_signed I16 = true
is_signed I32 = true
is_signed I64 = true
is_signed other = false

-- the number that a value of the kind stands for: a truth value counts as 0 or 1, a bit pattern for none
abbrev pub number_of_kind : Primitive → Value-F Value Part → Option ℤ
number_of_kind Truth (Boolean b) = Some (if b then pos 1 else pos 0)
number_of_kind Truth v = None
number_of_kind F32 v = None
number_of_kind F64 v = None
number_of_kind prim (Int z) = Some z
number_of_kind prim v = None

-- a number in the kind: modulo the width, and as a truth value whether it isn't zero
abbrev pub number_as : Primitive → ℤ → Option Value
number_as Truth z = Some (whole.Bool (not (int_eq z (pos 0))))
number_as F32 z = None
number_as F64 z = None
number_as prim z = Some (whole.Int (if is_signed prim then int_wrap (width_in_bits prim) z else int_rem_euclid z (pos (2 ^ (8 * width_of prim)))))

-- a bit pattern of the kind
abbrev pub bits_as : Primitive → Value-F Value Part → Option Value
bits_as F32 (Bits32 n) = Some (whole.Bits32 n)
bits_as F64 (Bits64 n) = Some (whole.Bits64 n)
bits_as prim v = None

-- a single value of one kind in another; bit patterns stay in their kind
abbrev pub single_as : Primitive → Primitive → Value → Option Value
single_as F32 F32 v = bits_as F32 (out-Value v)
single_as F64 F64 v = bits_as F64 (out-Value v)
single_as from to v = option_and_then (number_as to) (number_of_kind from (out-Value v))

abbrev pub each_as : Primitive → Primitive → List Value → Option (List Value)
each_as from to [] = Some []
each_as from to (v ∷ vs) = option_and_then (λ w. option_map (λ ws. w ∷ ws) (each_as from to vs)) (single_as from to v)

-- whether there is a conversion, whatever the value
abbrev pub is_numeric : Primitive → Bool
is_numeric F32 = false
is_numeric F64 = false
is_numeric other = true

abbrev pub converts : Primitive → Primitive → Bool
converts F32 F32 = true
converts F64 F64 = true
converts from to = is_numeric from && is_numeric to

-- a list, value by value
abbrev pub list_as : Primitive → Primitive → Value → Option Value
list_as from to v = if converts from to then by (out-Value v) else None
  where
    by : Value-F Value Part → Option Value
    by (Items items) = option_map whole.List (each_as from to items)
    by other = None

-- ---- forms

abbrev pub is_text_value : Value-F Value Part → Bool
is_text_value (Chars text) = true
is_text_value other = false

-- a list of so many values
abbrev pub is_list_of : ℕ → Value-F Value Part → Bool
is_list_of count (Items items) = length items == count
is_list_of count other = false

-- an object, or one that isn't read
abbrev pub is_object_value : Value-F Value Part → Bool
is_object_value (Object class version parts) = true
is_object_value (Opaque class len) = true
is_object_value other = false

abbrev pub is_pointer_value : Value-F Value Part → Bool
is_pointer_value (Pointed label object) = true
is_pointer_value Null = true
is_pointer_value (Back label) = true
is_pointer_value other = false

-- the class of an object
abbrev pub class_named : Value-F Value Part → List ℕ
class_named (Object class version parts) = class
class_named (Opaque class len) = class
class_named other = []

-- ---- zeros

abbrev pub single_zero : Primitive → Value
single_zero Truth = whole.Bool false
single_zero F32 = whole.Bits32 0
single_zero F64 = whole.Bits64 0
single_zero prim = whole.Int (pos 0)

-- the zero of a kind, by those of classes
abbrev pub kind_zero : (List ℕ → Option Value) → Kind → Option Value
kind_zero object (Plain prim) = Some (single_zero prim)
kind_zero object Counter = Some (whole.Int (pos 0))
kind_zero object (Fixed prim count) = Some (whole.List (replicate count (single_zero prim)))
kind_zero object (Counted prim counter) = Some (whole.List [])
kind_zero object Text = Some (whole.Text [])
kind_zero object (Inline class) = object class
kind_zero object (Pointer class) = Some whole.Null
kind_zero object (Other code) = None

-- the zero of what may stand in a part: a base is in its newest version
abbrev pub slot_zero : (List ℕ → Option Value) → Slot → Option Value
slot_zero object (kinded kind) = kind_zero object kind
slot_zero object (based class version) = object class
slot_zero object flags = Some (whole.Int (pos 0))
slot_zero object any_pointer = Some whole.Null
slot_zero object link = None
slot_zero object (many slot) = Some (whole.List [])

abbrev pub parts_zero : (List ℕ → Option Value) → List Field → Option (List Part)
parts_zero object [] = Some []
parts_zero object (f ∷ fs) = option_and_then (λ v. option_map (λ ps. part f.name v ∷ ps) (parts_zero object fs)) (slot_zero object f.slot)

abbrev pub object_zero : List ClassDef → List ℕ → (List ℕ → Option Value) → ℤ → Option Value
object_zero classes class object version =
    option_map (whole.Object class version) (option_and_then (parts_zero object) (fields_of classes class version))

-- the version of a zero object: the one version of a built-in class, and of any other the newest in which it is declared
abbrev pub zero_version : List ClassDef → List ℕ → Option ℤ
zero_version classes class = option_or (built_in_version class) (option_map (λ c. c.version) (newest_in classes class))

-- the zero object of a class, of at most so many objects within one another
unfoldable pub zero_within : ℕ → List ClassDef → List ℕ → Option Value
zero_within zero classes class = None
zero_within (suc levels) classes class =
    option_and_then (object_zero classes class (zero_within levels classes)) (zero_version classes class)

-- The zero object of a class. There is none where a class is neither declared nor built in, has a member that isn't read, or
-- stands within itself: without that no more classes stand within one another than are declared, and two built-in ones.
abbrev pub zero_of_class : List ClassDef → List ℕ → Option Value
zero_of_class classes = zero_within (length classes + 2) classes

-- ---- objects of the class

-- a value as it is, and as it is had
pub record Mapping : Type 0 where
  pub as_is : Value
  pub mapped : Mapped Value

pub record PartMapping : Type 0 where
  pub name : List ℕ
  pub value : Mapping

-- A value of one kind in another, if there is a conversion and the value has the form of its kind. Both are looked at before
-- what is within.
abbrev pub convert : Kind → Kind → Mapping → Option (Mapped Value)
convert (Plain from) (Plain to) m = option_map Ok (single_as from to m.as_is)
convert (Plain from) Counter m = option_map Ok (single_as from I32 m.as_is)
convert Counter (Plain to) m = option_map Ok (single_as I32 to m.as_is)
convert Counter Counter m = option_map Ok (single_as I32 I32 m.as_is)
convert (Fixed from count) (Fixed to wanted) m = if count == wanted && is_list_of count (out-Value m.as_is) then option_map Ok (list_as from to m.as_is) else None
convert (Counted from counter) (Counted to other) m = option_map Ok (list_as from to m.as_is)
convert Text Text m = if is_text_value (out-Value m.as_is) then Some (Ok m.as_is) else None
convert (Inline class) (Inline other) m = if bytes_eq class other && is_object_value (out-Value m.as_is) then Some m.mapped else None
convert (Pointer class) (Pointer other) m = if bytes_eq class other && is_pointer_value (out-Value m.as_is) then Some m.mapped else None
convert from to m = None

-- the bases and members of an object, where it is described: what isn't described counts as absent
abbrev pub described_bases : Option ClassDef → List Base
described_bases None = []
described_bases (Some c) = c.bases

abbrev pub described_members : Option ClassDef → List Member
described_members None = []
described_members (Some c) = c.members

-- the part of a base: the first object of the class that has no name
abbrev pub base_part_of : List Base → List PartMapping → List ℕ → Option Mapping
base_part_of bases parts name =
    if list_any (λ b. bytes_eq b.name name) bases
    then option_map (λ p. p.value) (find (λ p. (length p.name == 0) && bytes_eq (class_named (out-Value p.value.as_is)) name) parts)
    else None

-- the part of a member, and the kind that it has there
abbrev pub member_part_of : List Member → List PartMapping → List ℕ → Option (Kind × Mapping)
member_part_of members parts name =
    option_and_then (λ m. option_map (λ p. (m.kind, p.value)) (find (λ p. bytes_eq p.name name) parts)) (find (λ m. bytes_eq m.name name) members)

abbrev pub base_mapped : List ClassDef → Base → Option Mapping → Mapped Value
base_mapped classes b (Some m) = m.mapped
base_mapped classes b None = or_changed b.name (zero_of_class classes b.name)

abbrev pub flat_mapped : List ℕ → Option (Mapped Value) → Mapped Value
flat_mapped name (Some mapped) = mapped
flat_mapped name None = Err (KindChanged name)

abbrev pub member_mapped : List ClassDef → Member → Option (Kind × Mapping) → Mapped Value
member_mapped classes m (Some x) = flat_mapped m.name (convert x.0 m.kind x.1)
member_mapped classes m None = or_changed m.name (kind_zero (zero_of_class classes) m.kind)

-- parts, one after the other, up to the first that can't be had
abbrev pub each_mapped : {A : Type 0} → (A → List ℕ) → (A → Mapped Value) → List A → Mapped (List Part)
each_mapped name value [] = Ok []
each_mapped name value (x ∷ xs) = value x >>= λ v. each_mapped name value xs >>= λ ps. Ok (part (name x) v ∷ ps)

-- The parts of an object after those of its bases, which have no names. The object may have been read by another description of
-- its version than the one that has these bases: so no part with a name is passed.
abbrev pub after_bases : {A : Type 0} → (A → List ℕ) → List Base → List A → List A
after_bases name [] parts = parts
after_bases name (b ∷ bs) [] = []
after_bases name (b ∷ bs) (p ∷ ps) = if length (name p) == 0 then after_bases name bs ps else p ∷ ps

-- The parts of an object in the asked version: its bases and then its members, in order.
abbrev pub object_mapped : List ClassDef → Option ClassDef → ClassDef → List PartMapping → Mapped (List Part)
object_mapped classes old new parts = do
  bases ← each_mapped (λ b. []) (λ b. base_mapped classes b (base_part_of (described_bases old) parts b.name)) new.bases
  members ← each_mapped (λ m. m.name) (λ m. member_mapped classes m (member_part_of (described_members old) (after_bases (λ p. p.name) (described_bases old) parts) m.name)) new.members
  Ok (bases ++ members)

-- ---- values

-- the class that objects are asked in, as it is in the asked version
pub record Asked : Type 0 where
  pub class : List ℕ
  pub version : ℤ
  pub described : ClassDef

abbrev pub part_mapping : List ℕ → Mapping → PartMapping
part_mapping name value = record { name = name; value = value }

abbrev pub whole_part : PartMapping → Part
whole_part p = part p.name p.value.as_is

-- an object of the class in the asked version; any other one as it is, with what is within it mapped
abbrev pub object_as : List ClassDef → Asked → List ℕ → ℤ → List PartMapping → Mapped Value
object_as classes asked class version parts =
    if bytes_eq class asked.class
    then (object_mapped classes (find_in classes class version) asked.described parts >>= λ ps. Ok (whole.Object class asked.version ps))
    else (each_mapped (λ p. p.name) (λ p. p.value.mapped) parts >>= λ ps. Ok (whole.Object class version ps))

abbrev pub items_mapped : List Mapping → Mapped (List Value)
items_mapped [] = Ok []
items_mapped (m ∷ ms) = m.mapped >>= λ v. items_mapped ms >>= λ vs. Ok (v ∷ vs)

abbrev pub as_it_is : Value → Mapping
as_it_is v = record { as_is = v; mapped = Ok v }

-- one layer of a value, with what is known of each child in its place
abbrev pub mapping_step : List ClassDef → Asked → Value-F Mapping PartMapping → Mapping
mapping_step classes asked (Int z) = as_it_is (whole.Int z)
mapping_step classes asked (Bits32 n) = as_it_is (whole.Bits32 n)
mapping_step classes asked (Bits64 n) = as_it_is (whole.Bits64 n)
mapping_step classes asked (Boolean b) = as_it_is (whole.Bool b)
mapping_step classes asked (Chars text) = as_it_is (whole.Text text)
mapping_step classes asked (Items items) = record {
  as_is = whole.List (map (λ m. m.as_is) items);
  mapped = items_mapped items >>= λ vs. Ok (whole.List vs);
}
mapping_step classes asked (Object class version parts) = record {
  as_is = whole.Object class version (map whole_part parts);
  mapped = object_as classes asked class version parts;
}
mapping_step classes asked (Pointed label object) = record {
  as_is = whole.Pointed label object.as_is;
  mapped = object.mapped >>= λ v. Ok (whole.Pointed label v);
}
mapping_step classes asked Null = as_it_is whole.Null
mapping_step classes asked (Back label) = as_it_is (whole.Back label)
mapping_step classes asked (Opaque class len) = as_it_is (whole.Opaque class len)

abbrev pub mapping_of : List ClassDef → Asked → Value → Mapping
mapping_of classes asked =
    fold-Value Mapping PartMapping (mapping_step classes asked) (λ p. part_mapping p.name p.value)

-- the first description of the class in the version
abbrev pub in_description : List ClassDef → List ℕ → ℤ → Value → Option ClassDef → Mapped Value
in_description classes class version v None = Err NoVersion
in_description classes class version v (Some c) = (mapping_of classes (record { class = class; version = version; described = c }) v).mapped

-- a value in which a built-in class is asked in the version: the class has its own alone, in which nothing changes
abbrev pub in_own_version : ℤ → Value → ℤ → Mapped Value
in_own_version version v own = if int_eq version own then Ok v else Err NoVersion

-- a value with each object of the class in the version
unfoldable pub as_version : List ClassDef → List ℕ → ℤ → Value → Mapped Value
as_version classes class version v =
    option_map_or (in_own_version version v) (built_in_version class) (in_description classes class version v (find_in classes class version))

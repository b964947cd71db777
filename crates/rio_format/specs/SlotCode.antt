-- Slots and fields as pairs of numbers and lists, and back, which a type needs that contracts see as a definition's type.
use Rattle.std.specs.{Prelude.{◌≡◌, ℕ, zero, suc, ℤ, pos, List, [], ◌==◌, if◌then◌else◌, refl}, Coded.{Coded, code_by, coded×, coded_ℕ, coded_ℤ, coded_list}}
use Rattle.std.proofs.Common.{ap}
use Rattle.rio_format.specs.declared.kind.Kind.{Kind, TheVariants.{Plain, Counter, Fixed, Counted, Text, Inline, Pointer, Other}}
use Rattle.rio_format.specs.{declared.kind.Primitive.{Primitive, TheVariants.{I8, I16, I32, I64, U8, U16, U32, U64, Bool as Boolean, F32, F64}}, Slots.{Slot, kinded, based, flags, any_pointer, link, many, Field}}

abbrev prim_number : Primitive → ℕ
prim_number I8 = 0
prim_number I16 = 1
prim_number I32 = 2
prim_number I64 = 3
prim_number U8 = 4
prim_number U16 = 5
prim_number U32 = 6
prim_number U64 = 7
prim_number Boolean = 8
prim_number F32 = 9
prim_number F64 = 10

abbrev numbered_prim : ℕ → Primitive
numbered_prim n =
    if n == 0 then I8
    else if n == 1 then I16
    else if n == 2 then I32
    else if n == 3 then I64
    else if n == 4 then U8
    else if n == 5 then U16
    else if n == 6 then U32
    else if n == 7 then U64
    else if n == 8 then Boolean
    else if n == 9 then F32
    else F64

pub numbered_prim-number : (prim : Primitive) → numbered_prim (prim_number prim) ≡ prim
numbered_prim-number I8 = refl
numbered_prim-number I16 = refl
numbered_prim-number I32 = refl
numbered_prim-number I64 = refl
numbered_prim-number U8 = refl
numbered_prim-number U16 = refl
numbered_prim-number U32 = refl
numbered_prim-number U64 = refl
numbered_prim-number Boolean = refl
numbered_prim-number F32 = refl
numbered_prim-number F64 = refl

-- a slot without lists around it: a number for its case, then kind of numbers, name, and count, code or version (0 where it
-- has none)
abbrev Single : Type 0
Single = ℕ × (ℕ × (List ℕ × ℤ))

abbrev kind_single : Kind → Single
kind_single (Plain prim) = (0, (prim_number prim, ([], pos 0)))
kind_single Counter = (1, (0, ([], pos 0)))
kind_single (Fixed prim count) = (2, (prim_number prim, ([], pos count)))
kind_single (Counted prim counter) = (3, (prim_number prim, (counter, pos 0)))
kind_single Text = (4, (0, ([], pos 0)))
kind_single (Inline class) = (5, (0, (class, pos 0)))
kind_single (Pointer class) = (6, (0, (class, pos 0)))
kind_single (Other code) = (7, (0, ([], code)))

abbrev count_in : ℤ → ℕ
count_in (pos n) = n
count_in other = 0

abbrev single_slot : Single → Slot
single_slot s =
    if s.0 == 0 then kinded (Plain (numbered_prim s.1.0))
    else if s.0 == 1 then kinded Counter
    else if s.0 == 2 then kinded (Fixed (numbered_prim s.1.0) (count_in s.1.1.1))
    else if s.0 == 3 then kinded (Counted (numbered_prim s.1.0) s.1.1.0)
    else if s.0 == 4 then kinded Text
    else if s.0 == 5 then kinded (Inline s.1.1.0)
    else if s.0 == 6 then kinded (Pointer s.1.1.0)
    else if s.0 == 7 then kinded (Other s.1.1.1)
    else if s.0 == 8 then based s.1.1.0 s.1.1.1
    else if s.0 == 9 then flags
    else if s.0 == 10 then any_pointer
    else link

-- how many lists stand around it, and what is no list
abbrev slot_parts : Slot → ℕ × Single
slot_parts (kinded kind) = (0, kind_single kind)
slot_parts (based class version) = (0, (8, (0, (class, version))))
slot_parts flags = (0, (9, (0, ([], pos 0))))
slot_parts any_pointer = (0, (10, (0, ([], pos 0))))
slot_parts link = (0, (11, (0, ([], pos 0))))
slot_parts (many slot) = (suc (slot_parts slot).0, (slot_parts slot).1)

abbrev listed_times : ℕ → Slot → Slot
listed_times zero slot = slot
listed_times (suc n) slot = many (listed_times n slot)

abbrev parted_slot : ℕ × Single → Slot
parted_slot p = listed_times p.0 (single_slot p.1)

pub kind_again : (kind : Kind) → single_slot (kind_single kind) ≡ kinded kind
kind_again (Plain prim) = ap (λ p. kinded (Plain p)) (numbered_prim-number prim)
kind_again Counter = refl
kind_again (Fixed prim count) = ap (λ p. kinded (Fixed p count)) (numbered_prim-number prim)
kind_again (Counted prim counter) = ap (λ p. kinded (Counted p counter)) (numbered_prim-number prim)
kind_again Text = refl
kind_again (Inline class) = refl
kind_again (Pointer class) = refl
kind_again (Other code) = refl

pub parted_slot-parts : (slot : Slot) → parted_slot (slot_parts slot) ≡ slot
parted_slot-parts (kinded kind) = kind_again kind
parted_slot-parts (based class version) = refl
parted_slot-parts flags = refl
parted_slot-parts any_pointer = refl
parted_slot-parts link = refl
parted_slot-parts (many slot) = ap (λ s. many s) (parted_slot-parts slot)

abbrev pub slot_code : Coded Slot
slot_code =
    code_by (ℕ × Single) (coded× coded_ℕ (coded× coded_ℕ (coded× coded_ℕ (coded× (coded_list coded_ℕ) coded_ℤ))))
    slot_parts parted_slot parted_slot-parts

abbrev pub field_code : Coded Field
field_code =
    code_by (List ℕ × Slot) (coded× (coded_list coded_ℕ) slot_code)
    (λ f. (f.name, f.slot)) (λ p. record { name = p.0; slot = p.1 }) (λ _. refl)

-- Which values fit a class. Labels are counted in one walk through the value.
use Rattle.std.specs.Prelude.{ℕ, ◌^◌, ℤ, pos, List, [], ◌∷◌, ◌++◌, length, slice_get, bit_and, Bool, true, false, ◌==◌, ◌&&◌, nat_lt, Option, Some, None, is_some, IsTrue, option_and_then, if◌then◌else◌}
use Rattle.std.specs.{Map.{lookup}, Str.{bytes_eq}, Ordering.{int_eq}}
use Rattle.rio_format.specs.{declared.class.ClassDef.{ClassDef}, declared.kind.Kind.TheVariants.{Plain, Counter, Fixed, Counted, Text as Texted, Inline, Pointer, Other}}
use Rattle.rio_format.specs.declared.kind.Primitive.{Primitive, TheVariants.{I8, I16, I32, I64, U8, U16, U32, U64, Bool as Boolean, F32, F64}}
pub use Rattle.rio_format.specs.Integers.{fits_signed, fits_unsigned}
use Rattle.rio_format.specs.{declared.value.Value.{Value, TheOpen.{Value-F, Int, Bits32, Bits64, Bool as Truth, Text, List as Items, Object, Pointed, Null, Back, Opaque}, TheFolds.{fold-Value}}, declared.value.Part.{Part}}
use Rattle.rio_format.specs.{Bodies.{Counters}, Slots.{Slot, kinded, based, flags, any_pointer, link, many, Field, fields_of, derives_from, can_be_word, can_be_put}}

-- the classes and versions of the objects that have a label, by label
abbrev pub Labels : Type 0
Labels = List (List ℕ × ℤ)

-- what is to be known of a value: whether it fits in a slot, with the labels behind it
pub record Fitting : Type 0 where
  -- the class and version of an object
  pub class : Option (List ℕ × ℤ)
  -- the number that an integer is
  pub number : ℤ
  -- the labels behind it, where it fits in the slot behind these labels
  pub fits : Slot → Labels → Option Labels

-- the same labels, where the test holds
abbrev pub pass : Bool → Labels → Option Labels
pass b labels = if b then Some labels else None

-- ---- numbers

abbrev pub fits_prim : Primitive → ℤ → Bool
fits_prim I8 z = fits_signed 8 z
fits_prim I16 z = fits_signed 16 z
fits_prim I32 z = fits_signed 32 z
fits_prim I64 z = fits_signed 64 z
fits_prim U8 z = fits_unsigned 8 z
fits_prim U16 z = fits_unsigned 16 z
fits_prim U32 z = fits_unsigned 32 z
fits_prim U64 z = fits_unsigned 64 z
fits_prim Boolean z = false
fits_prim F32 z = false
fits_prim F64 z = false

abbrev pub int_fits : ℤ → Slot → Bool
int_fits z (kinded (Plain prim)) = fits_prim prim z
int_fits z (kinded Counter) = fits_signed 32 z
int_fits (pos n) flags = nat_lt n (2 ^ 32) && (bit_and n 16 == 0)
int_fits z other = false

abbrev pub bits32_fits : ℕ → Slot → Bool
bits32_fits n (kinded (Plain F32)) = nat_lt n (2 ^ 32)
bits32_fits n other = false

abbrev pub bits64_fits : ℕ → Slot → Bool
bits64_fits n (kinded (Plain F64)) = nat_lt n (2 ^ 64)
bits64_fits n other = false

abbrev pub truth_fits : Slot → Bool
truth_fits (kinded (Plain Boolean)) = true
truth_fits other = false

abbrev pub text_fits : Slot → Bool
text_fits (kinded Texted) = true
text_fits other = false

-- ---- lists

-- each fits in the slot, in order
abbrev pub all_fit : Slot → List Fitting → Labels → Option Labels
all_fit slot [] labels = Some labels
all_fit slot (f ∷ fs) labels = option_and_then (all_fit slot fs) (f.fits slot labels)

-- a pointer fits, and behind it a text
abbrev pub link_fits : List Fitting → Labels → Option Labels
link_fits (pointer ∷ text ∷ []) labels = option_and_then (text.fits (kinded Texted)) (pointer.fits any_pointer labels)
link_fits other labels = None

abbrev pub list_fits : List Fitting → Slot → Labels → Option Labels
list_fits items (kinded (Fixed prim count)) labels = if length items == count then all_fit (kinded (Plain prim)) items labels else None
list_fits items link labels = link_fits items labels
list_fits items (many slot) labels = all_fit slot items labels
list_fits items other labels = None

-- ---- objects

-- A counted list fits as a list of as many values as the last earlier counter of the name says. Without one nothing fits, as
-- nothing fits where the kind isn't known.
abbrev pub fixed_by : Primitive → Option ℤ → Slot
fixed_by prim (Some (pos count)) = kinded (Fixed prim count)
fixed_by prim other = kinded (Other (pos 0))

abbrev pub counted_slot : Counters → Slot → Slot
counted_slot counters (kinded (Counted prim counter)) = fixed_by prim (lookup (bytes_eq counter) counters)
counted_slot counters other = other

abbrev pub counted_so_far : Field → ℤ → Counters → Counters
counted_so_far f number counters = by f.slot
  where
    by : Slot → Counters
    by (kinded Counter) = (f.name, number) ∷ counters
    by other = counters

-- the parts are those that the class has: the first one has the name and fits, and behind it so do the others
abbrev pub fields_fit : List Field → List (List ℕ × Fitting) → Counters → Labels → Option Labels
fields_fit [] [] counters labels = Some labels
fields_fit [] (y ∷ ys) counters labels = None
fields_fit (f ∷ fs) [] counters labels = None
fields_fit (f ∷ fs) (y ∷ ys) counters labels =
    if bytes_eq y.0 f.name then option_and_then (fields_fit fs ys (counted_so_far f y.1.number counters)) (y.1.fits (counted_slot counters f.slot) labels) else None

abbrev pub parts_fit : Option (List Field) → List (List ℕ × Fitting) → Labels → Option Labels
parts_fit None parts labels = None
parts_fit (Some fields) parts labels = fields_fit fields parts [] labels

-- an object stands in a slot for its class, or for its class and version
abbrev pub object_may_stand : List ℕ → ℤ → Slot → Bool
object_may_stand class version (kinded (Inline c)) = bytes_eq class c
object_may_stand class version (based c v) = bytes_eq class c && int_eq version v
object_may_stand class version other = false

-- ---- pointers

-- whether a pointer may point to an object of this class and version
abbrev pub may_point : List ClassDef → List ℕ × ℤ → Slot → Bool
may_point classes own (kinded (Pointer c)) = can_be_word own.0 && derives_from classes c own.0 own.1
may_point classes own any_pointer = can_be_word own.0 && can_be_put classes own.0
may_point classes own other = false

abbrev pub is_pointer : Slot → Bool
is_pointer (kinded (Pointer c)) = true
is_pointer any_pointer = true
is_pointer other = false

-- the object gets the next label, and may be pointed to from then on
abbrev pub pointed_fits : List ClassDef → ℕ → Fitting → Option (List ℕ × ℤ) → Slot → Labels → Option Labels
pointed_fits classes label object None slot labels = None
pointed_fits classes label object (Some own) slot labels =
    if label == length labels && may_point classes own slot then object.fits (kinded (Inline own.0)) (labels ++ own ∷ []) else None

abbrev pub back_fits : List ClassDef → Option (List ℕ × ℤ) → Slot → Bool
back_fits classes None slot = false
back_fits classes (Some own) slot = may_point classes own slot

-- ---- values

abbrev pub no_class : (Slot → Labels → Option Labels) → Fitting
no_class fits = record { class = None; number = pos 0; fits = fits }

-- what is to be known of a value, by what is known of each value that stands in it
abbrev pub fitting_step : List ClassDef → Value-F Fitting (List ℕ × Fitting) → Fitting
fitting_step classes (Int z) = record { class = None; number = z; fits = λ slot labels. pass (int_fits z slot) labels }
fitting_step classes (Bits32 n) = no_class (λ slot labels. pass (bits32_fits n slot) labels)
fitting_step classes (Bits64 n) = no_class (λ slot labels. pass (bits64_fits n slot) labels)
fitting_step classes (Truth b) = no_class (λ slot labels. pass (truth_fits slot) labels)
fitting_step classes (Text t) = no_class (λ slot labels. pass (text_fits slot) labels)
fitting_step classes (Items items) = no_class (λ slot labels. list_fits items slot labels)
fitting_step classes (Object class version parts) = record {
  class = Some (class, version);
  number = pos 0;
  fits = λ slot labels. if object_may_stand class version slot then parts_fit (fields_of classes class version) parts labels else None;
}
fitting_step classes (Pointed label object) = no_class (λ slot labels. pointed_fits classes label object object.class slot labels)
fitting_step classes Null = no_class (λ slot labels. pass (is_pointer slot) labels)
fitting_step classes (Back label) = no_class (λ slot labels. pass (back_fits classes (slice_get labels label) slot) labels)
fitting_step classes (Opaque class len) = no_class (λ slot labels. None)

abbrev pub fitting_of : List ClassDef → Value → Fitting
fitting_of classes = fold-Value Fitting (List ℕ × Fitting) (fitting_step classes) (λ p. (p.name, p.value))

abbrev pub part_fitting : List ClassDef → Part → List ℕ × Fitting
part_fitting classes p = (p.name, fitting_of classes p.value)

-- whether a value is an object of the class that fits it
abbrev pub fits : List ClassDef → List ℕ → Value → Bool
fits classes class v = is_some ((fitting_of classes v).fits (kinded (Inline class)) [])

abbrev pub Fits : List ClassDef → List ℕ → Value → Type 0
Fits classes class v = IsTrue (fits classes class v)

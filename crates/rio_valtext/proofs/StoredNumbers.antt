-- Single values that fit are readable.
use Rattle.std.proofs.{Common.{◌≡◌, ◌==◌, ℕ, ◌^◌, ℤ, pos, negsuc, Bool, true, false, Some, nat_lt, refl, arith}, lemmas.Bool.{and_parts, Decides.{nat_tests}}}
use Rattle.std.specs.Prelude.{bit_and}
use Rattle.rio_format.specs.{declared.kind.Kind.TheVariants.{Plain, Counter, Text as Texted, Pointer}, declared.kind.Primitive.{Primitive, TheVariants.{I8, I16, I32, I64, U8, U16, U32, U64, Bool as Boolean, F32, F64}}}
use Rattle.rio_format.specs.{Fits.{Labels, pass, fits_prim, fits_signed, fits_unsigned, int_fits, bits32_fits, bits64_fits, truth_fits, text_fits, is_pointer}, Slots.{Slot, kinded, flags, any_pointer}}
use Rattle.rio_model.specs.Readable.{is_number}
use Rattle.rio_valtext.proofs.StoredSlots.{is_object_slot}

signed_8 : (z : ℤ) → fits_signed 8 z ≡ true → is_number z ≡ true
signed_8 (pos n) e = grind (arith, nat_tests)
signed_8 (negsuc n) e = grind (arith, nat_tests)

signed_16 : (z : ℤ) → fits_signed 16 z ≡ true → is_number z ≡ true
signed_16 (pos n) e = grind (arith, nat_tests)
signed_16 (negsuc n) e = grind (arith, nat_tests)

signed_32 : (z : ℤ) → fits_signed 32 z ≡ true → is_number z ≡ true
signed_32 (pos n) e = grind (arith, nat_tests)
signed_32 (negsuc n) e = grind (arith, nat_tests)

signed_64 : (z : ℤ) → fits_signed 64 z ≡ true → is_number z ≡ true
signed_64 (pos n) e = grind (arith, nat_tests)
signed_64 (negsuc n) e = grind (arith, nat_tests)

unsigned_8 : (z : ℤ) → fits_unsigned 8 z ≡ true → is_number z ≡ true
unsigned_8 (pos n) e = grind (arith, nat_tests)
unsigned_8 (negsuc n) e = grind (arith, nat_tests)

unsigned_16 : (z : ℤ) → fits_unsigned 16 z ≡ true → is_number z ≡ true
unsigned_16 (pos n) e = grind (arith, nat_tests)
unsigned_16 (negsuc n) e = grind (arith, nat_tests)

unsigned_32 : (z : ℤ) → fits_unsigned 32 z ≡ true → is_number z ≡ true
unsigned_32 (pos n) e = grind (arith, nat_tests)
unsigned_32 (negsuc n) e = grind (arith, nat_tests)

unsigned_64 : (z : ℤ) → fits_unsigned 64 z ≡ true → is_number z ≡ true
unsigned_64 (pos n) e = grind (arith, nat_tests)
unsigned_64 (negsuc n) e = grind (arith, nat_tests)

prim_number : (of : Primitive) (z : ℤ) → fits_prim of z ≡ true → is_number z ≡ true
prim_number I8 z e = signed_8 z e
prim_number I16 z e = signed_16 z e
prim_number I32 z e = signed_32 z e
prim_number I64 z e = signed_64 z e
prim_number U8 z e = unsigned_8 z e
prim_number U16 z e = unsigned_16 z e
prim_number U32 z e = unsigned_32 z e
prim_number U64 z e = unsigned_64 z e
prim_number Boolean z e = absurd cc
prim_number F32 z e = absurd cc
prim_number F64 z e = absurd cc

-- four bytes are within eight
wider : (n : ℕ) → nat_lt n (2 ^ 32) ≡ true → nat_lt n (2 ^ 64) ≡ true
wider n e = grind (arith, nat_tests)

-- ---- each single value, by its slot, in which no object stands

pub passed : (b : Bool) (before after : Labels) → pass b before ≡ Some after → b ≡ true
passed true before after e = refl
passed false before after e = absurd cc

pub int_readable : (z : ℤ) (slot : Slot) → int_fits z slot ≡ true → (is_number z ≡ true) × (is_object_slot slot ≡ false)
int_readable z (kinded (Plain of)) e = (prim_number of z e, refl)
int_readable z (kinded Counter) e = (signed_32 z e, refl)
int_readable (pos n) flags e = (wider n (and_parts (nat_lt n (2 ^ 32)) (bit_and n 16 == 0) e).0, refl)
int_readable z other e = absurd cc

pub bits32_readable : (n : ℕ) (slot : Slot) → bits32_fits n slot ≡ true → (nat_lt n (2 ^ 32) ≡ true) × (is_object_slot slot ≡ false)
bits32_readable n (kinded (Plain F32)) e = (e, refl)
bits32_readable n other e = absurd cc

pub bits64_readable : (n : ℕ) (slot : Slot) → bits64_fits n slot ≡ true → (nat_lt n (2 ^ 64) ≡ true) × (is_object_slot slot ≡ false)
bits64_readable n (kinded (Plain F64)) e = (e, refl)
bits64_readable n other e = absurd cc

pub truth_readable : (slot : Slot) → truth_fits slot ≡ true → is_object_slot slot ≡ false
truth_readable (kinded (Plain Boolean)) e = refl
truth_readable other e = absurd cc

pub text_readable : (slot : Slot) → text_fits slot ≡ true → is_object_slot slot ≡ false
text_readable (kinded Texted) e = refl
text_readable other e = absurd cc

pub null_readable : (slot : Slot) → is_pointer slot ≡ true → is_object_slot slot ≡ false
null_readable (kinded (Pointer class)) e = refl
null_readable any_pointer e = refl
null_readable other e = absurd cc

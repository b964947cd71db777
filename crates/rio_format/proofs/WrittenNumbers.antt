-- What is written for a single value that fits gives the value.
use Rattle.std.proofs.{Common.{◌≡◌, ◌&&◌, ℕ, ◌^◌, ◌<◌, ℤ, pos, negsuc, Bool, true, false, ltb, int_le, [], ◌∷◌, refl, sym, ap, arith}, lemmas.Bool.{ltb-true}}
use Rattle.std.proofs.lemmas.Int.{ints}
use Rattle.std.specs.Int.{w8, w16, w32, w64, cast_signed, cast_unsigned}
use Rattle.byteorder.specs.Endian.{big_bytes}
use Rattle.rio_format.specs.{declared.kind.Primitive.{Primitive, TheVariants.{I8, I16, I32, I64, U8, U16, U32, U64, Bool as Boolean, F32, F64}}, declared.value.Value.{Int, Bits32, Bits64, Bool as Truth}}
use Rattle.rio_format.specs.{Fits.{fits_prim, fits_signed, fits_unsigned}, Prims.{width_of, value_of_prim}, Written.{truth_byte, width_in_bits}, ReaderState.{WordsMet}}
use Rattle.rio_format.proofs.Composed.{IsNumber}

signed_8 : (z : ℤ) → fits_signed 8 z ≡ true → cast_signed w8 (cast_unsigned w8 z) ≡ z
signed_8 z e = grind (arith, ints)

signed_16 : (z : ℤ) → fits_signed 16 z ≡ true → cast_signed w16 (cast_unsigned w16 z) ≡ z
signed_16 z e = grind (arith, ints)

signed_32 : (z : ℤ) → fits_signed 32 z ≡ true → cast_signed w32 (cast_unsigned w32 z) ≡ z
signed_32 z e = grind (arith, ints)

signed_64 : (z : ℤ) → fits_signed 64 z ≡ true → cast_signed w64 (cast_unsigned w64 z) ≡ z
signed_64 z e = grind (arith, ints)

signed_low_8 : (z : ℤ) → fits_signed 8 z ≡ true → cast_unsigned w8 z < 256 ^ 1
signed_low_8 z e = grind (arith, ints)

signed_low_16 : (z : ℤ) → fits_signed 16 z ≡ true → cast_unsigned w16 z < 256 ^ 2
signed_low_16 z e = grind (arith, ints)

signed_low_32 : (z : ℤ) → fits_signed 32 z ≡ true → cast_unsigned w32 z < 256 ^ 4
signed_low_32 z e = grind (arith, ints)

signed_low_64 : (z : ℤ) → fits_signed 64 z ≡ true → cast_unsigned w64 z < 256 ^ 8
signed_low_64 z e = grind (arith, ints)

unsigned_8 : (z : ℤ) → fits_unsigned 8 z ≡ true → pos (cast_unsigned w8 z) ≡ z
unsigned_8 z e = grind (arith, ints)

unsigned_16 : (z : ℤ) → fits_unsigned 16 z ≡ true → pos (cast_unsigned w16 z) ≡ z
unsigned_16 z e = grind (arith, ints)

unsigned_32 : (z : ℤ) → fits_unsigned 32 z ≡ true → pos (cast_unsigned w32 z) ≡ z
unsigned_32 z e = grind (arith, ints)

unsigned_64 : (z : ℤ) → fits_unsigned 64 z ≡ true → pos (cast_unsigned w64 z) ≡ z
unsigned_64 z e = grind (arith, ints)

unsigned_low_8 : (z : ℤ) → fits_unsigned 8 z ≡ true → cast_unsigned w8 z < 256 ^ 1
unsigned_low_8 z e = grind (arith, ints)

unsigned_low_16 : (z : ℤ) → fits_unsigned 16 z ≡ true → cast_unsigned w16 z < 256 ^ 2
unsigned_low_16 z e = grind (arith, ints)

unsigned_low_32 : (z : ℤ) → fits_unsigned 32 z ≡ true → cast_unsigned w32 z < 256 ^ 4
unsigned_low_32 z e = grind (arith, ints)

unsigned_low_64 : (z : ℤ) → fits_unsigned 64 z ≡ true → cast_unsigned w64 z < 256 ^ 8
unsigned_low_64 z e = grind (arith, ints)

-- ---- integers

abbrev IsIn : Primitive → ℤ → Type 0
IsIn of z = (cast_unsigned (width_in_bits of) z < 256 ^ width_of of) × (Int z ≡ value_of_prim of (cast_unsigned (width_in_bits of) z))

int_in : (of : Primitive) (z : ℤ) → fits_prim of z ≡ true → IsIn of z
int_in I8 z e = (signed_low_8 z e, ap Int (sym (signed_8 z e)))
int_in I16 z e = (signed_low_16 z e, ap Int (sym (signed_16 z e)))
int_in I32 z e = (signed_low_32 z e, ap Int (sym (signed_32 z e)))
int_in I64 z e = (signed_low_64 z e, ap Int (sym (signed_64 z e)))
int_in U8 z e = (unsigned_low_8 z e, ap Int (sym (unsigned_8 z e)))
int_in U16 z e = (unsigned_low_16 z e, ap Int (sym (unsigned_16 z e)))
int_in U32 z e = (unsigned_low_32 z e, ap Int (sym (unsigned_32 z e)))
int_in U64 z e = (unsigned_low_64 z e, ap Int (sym (unsigned_64 z e)))
int_in Boolean z e = absurd cc
int_in F32 z e = absurd cc
int_in F64 z e = absurd cc

pub int_number : (of : Primitive) (z : ℤ) (t : WordsMet) → fits_prim of z ≡ true → IsNumber of t (Int z) (big_bytes (width_of of) (cast_unsigned (width_in_bits of) z)) t
int_number of z t e = let f = int_in of z e in record { n = cast_unsigned (width_in_bits of) z; fits = f.0; value = f.1; spelled = refl; words = refl }

pub counter_number : (z : ℤ) (t : WordsMet) → fits_signed 32 z ≡ true → IsNumber I32 t (Int z) (big_bytes 4 (cast_unsigned w32 z)) t
counter_number z t e = int_number I32 z t e

-- TObject's fBits
pub flags_bytes : (n : ℕ) → n < 2 ^ 32 → cast_unsigned w32 (pos n) ≡ n
flags_bytes n lt = grind (arith, ints)

-- ---- other single values

pub bits32_number : (n : ℕ) (t : WordsMet) → ltb n (2 ^ 32) ≡ true → IsNumber F32 t (Bits32 n) (big_bytes 4 n) t
bits32_number n t e = let lt : n < 2 ^ 32 = ltb-true _ _ e in record { n = n; fits = omega arith; value = refl; spelled = refl; words = refl }

pub bits64_number : (n : ℕ) (t : WordsMet) → ltb n (2 ^ 64) ≡ true → IsNumber F64 t (Bits64 n) (big_bytes 8 n) t
bits64_number n t e = let lt : n < 2 ^ 64 = ltb-true _ _ e in record { n = n; fits = omega arith; value = refl; spelled = refl; words = refl }

pub truth_number : (b : Bool) (t : WordsMet) → IsNumber Boolean t (Truth b) (truth_byte b ∷ []) t
truth_number true t = record { n = 1; fits = omega arith; value = refl; spelled = refl; words = refl }
truth_number false t = record { n = 0; fits = omega arith; value = refl; spelled = refl; words = refl }

-- ---- versions

pub version_bytes : (version : ℤ) → (int_le (pos 1) version && int_le version (pos 65535)) ≡ true → (n : ℕ) × (version ≡ pos n) × (0 < n) × (n < 2 ^ 16) × (cast_unsigned w16 (pos n) ≡ n)
version_bytes (pos n) e = (n, refl, grind (arith, ints), grind (arith, ints), grind (arith, ints))
version_bytes (negsuc n) e = absurd (grind (arith, ints))

-- Numbers modulo a width, as signed ones.
use Rattle.std.proofs.Common.{◌≡◌, ℕ, ℤ, pos, ap}
use Rattle.std.specs.Int.{cast_signed, int_rem_euclid, int_wrap, w8, w16, w32, w64}
use Rattle.std.specs.Int.RustNames.{unsigned_abs}

pub wraps_8 : (n : ℕ) (z : ℤ) → pos n ≡ int_rem_euclid z (pos 256) → cast_signed w8 n ≡ int_wrap w8 z
unfolding int_wrap
wraps_8 n z h = ap (λ (x : ℤ). cast_signed w8 (unsigned_abs x)) h

pub wraps_16 : (n : ℕ) (z : ℤ) → pos n ≡ int_rem_euclid z (pos 65536) → cast_signed w16 n ≡ int_wrap w16 z
unfolding int_wrap
wraps_16 n z h = ap (λ (x : ℤ). cast_signed w16 (unsigned_abs x)) h

pub wraps_32 : (n : ℕ) (z : ℤ) → pos n ≡ int_rem_euclid z (pos 4294967296) → cast_signed w32 n ≡ int_wrap w32 z
unfolding int_wrap
wraps_32 n z h = ap (λ (x : ℤ). cast_signed w32 (unsigned_abs x)) h

pub wraps_64 : (n : ℕ) (z : ℤ) → pos n ≡ int_rem_euclid z (pos 18446744073709551616) → cast_signed w64 n ≡ int_wrap w64 z
unfolding int_wrap
wraps_64 n z h = ap (λ (x : ℤ). cast_signed w64 (unsigned_abs x)) h

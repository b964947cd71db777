-- Numbers of 4 bytes that stand for integers.
use Rattle.std.proofs.{Common.{◌≡◌, ℕ, ◌^◌, ◌<◌, ◌≤◌, pos, false, int_lt, arith}, lemmas.Int.{ints}}
use Rattle.std.specs.Int.{w32, cast_signed}

pub signed_is : (n : ℕ) → n < 2 ^ 31 → cast_signed w32 n ≡ pos n
signed_is n lt = grind (arith, ints)

pub not_below : (n k : ℕ) → k ≤ n → int_lt (pos n) (pos k) ≡ false
not_below n k le = grind (arith, ints)

pub record IsAtLeast (n k : ℕ) : Type 0 where
  pub low : n < 2 ^ 31
  pub above : k ≤ n

pub at_least : (n k : ℕ) → n < 2 ^ 32 → int_lt (cast_signed w32 n) (pos k) ≡ false → IsAtLeast n k
at_least n k lt e = record { low = grind (arith, ints); above = grind (arith, ints) }

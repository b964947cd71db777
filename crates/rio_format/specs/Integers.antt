-- Which integers so many bits hold.
use Rattle.std.specs.Prelude.{ℕ, ◌-◌, ◌^◌, ℤ, pos, neg_ℤ, ◌&&◌, int_le, int_lt, Bool}

-- within the integers of so many bits, with and without a sign
abbrev pub fits_signed : ℕ → ℤ → Bool
fits_signed bits z = int_le (neg_ℤ (pos (2 ^ (bits - 1)))) z && int_lt z (pos (2 ^ (bits - 1)))

abbrev pub fits_unsigned : ℕ → ℤ → Bool
fits_unsigned bits z = int_le (pos 0) z && int_lt z (pos (2 ^ bits))

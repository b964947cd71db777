-- Lengths that zero bytes raise to a multiple of four.
use Rattle.std.specs.Prelude.{ℕ, ◌+◌, ◌-◌, ◌%◌}

-- how many zero bytes bring a length to a multiple of four
abbrev pub zeros_behind : ℕ → ℕ
zeros_behind n = (4 - n % 4) % 4

-- a length with these zero bytes
abbrev pub padded_length : ℕ → ℕ
padded_length n = n + zeros_behind n

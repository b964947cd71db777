-- Numbers that the code tells as far as its types go.
use Rattle.std.specs.Prelude.{ℕ}

-- no list has more values
abbrev pub most_values : ℕ
most_values = 340282366920938463463374607431768211455

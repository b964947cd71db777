-- How deep a value goes: an object is one deeper than its deepest part.
use Rattle.std.specs.Prelude.{ℕ, ◌+◌, max, List, [], ◌∷◌}
use Rattle.rio_format.specs.declared.value.Value.{Value, TheOpen.{Value-F, Int, Bits32, Bits64, Bool as Boolean, Text, List as Items, Object, Pointed, Null, Back, Opaque}, TheFolds.{fold-Value}}

-- 0 where there is none
abbrev pub greatest : List ℕ → ℕ
greatest [] = 0
greatest (n ∷ ns) = max n (greatest ns)

-- one layer of a value, with the depth of each child in its place
abbrev pub depth_step : Value-F ℕ ℕ → ℕ
depth_step (Int n) = 0
depth_step (Bits32 n) = 0
depth_step (Bits64 n) = 0
depth_step (Boolean b) = 0
depth_step (Text t) = 0
depth_step (Items depths) = greatest depths
depth_step (Object class version depths) = greatest depths + 1
depth_step (Pointed label depth) = depth
depth_step Null = 0
depth_step (Back label) = 0
depth_step (Opaque class len) = 0

abbrev pub depth_of : Value → ℕ
depth_of = fold-Value ℕ ℕ depth_step (λ p. p.value)

use Rattle.std.proofs.Common.{◌≡◌, ◌≤◌, drop}
use Rattle.std.specs.Str.{all_ascii_digits, Parse.{digits_value, digits_value_after}}
use Rattle.rio_leaf.proofs.dim.dimension.Given as goal

abbrev pub invariant-loop-byte : goal.invariant-loop-byte
invariant-loop-byte l =
    (all_ascii_digits (drop l.byte-index l.word) ≡ all_ascii_digits l.word)
    × (digits_value_after 10 l.n (drop l.byte-index l.word) ≡ digits_value 10 l.word)
    × (l.n ≤ 1000009)

use Rattle.std.proofs.Common.{◌≡◌, length, take}
use Rattle.rio_format.proofs.equal.+equal.Given as goal

abbrev pub invariant-are_equal-pairs : goal.invariant-are_equal-pairs
invariant-are_equal-pairs l = take (length l.yielded) l.a ≡ take (length l.yielded) l.b

abbrev pub invariant-are_equal_parts-pairs : goal.invariant-are_equal_parts-pairs
invariant-are_equal_parts-pairs l = take (length l.yielded) l.a ≡ take (length l.yielded) l.b

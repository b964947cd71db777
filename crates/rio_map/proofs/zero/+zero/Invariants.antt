use Rattle.std.proofs.Common.{◌≡◌, ◌++◌, ◌+◌, ◌*◌, drop}
use Rattle.std.specs.Option.{option_map}
use Rattle.rio_model.specs.Mapping.{parts_zero, zero_within}
use Rattle.rio_map.proofs.zero.+zero.Given as goal

abbrev pub invariant-parts_zero-loop-k : goal.invariant-parts_zero-loop-k
invariant-parts_zero-loop-k l =
    option_map (λ ps. l.parts ++ ps) (parts_zero (zero_within l.levels l.classes) (drop l.k l.fields)) ≡ parts_zero (zero_within l.levels l.classes) l.fields

abbrev pub decreases-object_zero : goal.decreases-object_zero
decreases-object_zero l = 4 * l.levels + 3

abbrev pub decreases-parts_zero : goal.decreases-parts_zero
decreases-parts_zero l = 4 * l.levels + 2

abbrev pub decreases-slot_zero : goal.decreases-slot_zero
decreases-slot_zero l = 4 * l.levels + 1

abbrev pub decreases-zero_within : goal.decreases-zero_within
decreases-zero_within l = 4 * l.levels

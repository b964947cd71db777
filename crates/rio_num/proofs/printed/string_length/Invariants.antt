use Rattle.std.proofs.Common.{◌≡◌, ◌+◌, ◌*◌, ◌≤◌, length, drop}
use Rattle.std.specs.List.{flat_map}
use Rattle.rio_num.specs.Printed.{escaped}
use Rattle.rio_num.proofs.printed.string_length.Given as goal

abbrev pub invariant-loop-byte : goal.invariant-loop-byte
invariant-loop-byte l = (l.n + length (flat_map escaped (drop l.byte-index l.text)) ≡ length (flat_map escaped l.text) + 2) × (l.n ≤ 4 * l.byte-index + 2)

use Rattle.std.proofs.Common.{◌≡◌, take}
use Rattle.std.specs.{Map.{lookup}, Str.{bytes_eq}}
use Rattle.rio_format.specs.Counts.{last_first}
use Rattle.rio_format.proofs.counters.last_said.Given as goal

abbrev pub invariant-loop-counter : goal.invariant-loop-counter
invariant-loop-counter l = l.said ≡ lookup (bytes_eq l.name) (last_first (take l.counter-index l.counters))

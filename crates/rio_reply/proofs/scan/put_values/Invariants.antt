use Rattle.std.proofs.Common.{◌≡◌, ◌++◌, drop, true}
use Rattle.rio_reply.specs.Scanned.{values_behind}
use Rattle.rio_reply.proofs.scan.put_values.Given as goal

abbrev pub invariant-loop-value : goal.invariant-loop-value
invariant-loop-value l = l.text.bytes ++ values_behind l.first (drop l.value-index l.values) ≡ l.fn.text.bytes ++ values_behind true l.values

use Rattle.std.proofs.Common.{◌+◌, ◌-◌, length}
use Rattle.rio_registry.proofs.Ways.{IsFollowed, all_held}
use Rattle.rio_registry.proofs.reach.comes_to.Given as goal

abbrev pub invariant-loop-name : goal.invariant-loop-name
invariant-loop-name l = IsFollowed l.classes l.fn.names l.names l.last l.index

abbrev pub decreases-loop-name : goal.decreases-loop-name
decreases-loop-name l = length l.fn.names + length (all_held l.classes) - l.index

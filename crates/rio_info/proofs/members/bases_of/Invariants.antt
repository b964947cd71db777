use Rattle.std.proofs.Common.{◌≡◌, ◌++◌, drop, map}
use Rattle.rio_format.specs.Elements.{bases_of, element_of}
use Rattle.rio_info.proofs.members.bases_of.Given as goal

abbrev pub invariant-loop-item : goal.invariant-loop-item
invariant-loop-item l = l.bases ++ bases_of (map element_of (drop l.item-index l.items)) ≡ bases_of (map element_of l.items)

use Rattle.std.proofs.Common.{◌≡◌, [], ◌++◌, drop, map}
use Rattle.rio_format.specs.Elements.{element_of, members_of}
use Rattle.rio_info.proofs.members.members_of.Given as goal

abbrev pub invariant-loop-item : goal.invariant-loop-item
invariant-loop-item l = l.members ++ members_of l.counters (map element_of (drop l.item-index l.items)) ≡ members_of [] (map element_of l.items)

use Rattle.std.proofs.Common.{◌≡◌, ◌-◌, ◌^◌, length, min, take}
use Rattle.rio_recover.specs.Trees.{places_of}
use Rattle.rio_recover.proofs.room.count_all_baskets.Given as goal

abbrev pub invariant-loop-tree : goal.invariant-loop-tree
invariant-loop-tree l = l.count ≡ min (length (places_of (take l.tree-index l.trees))) (2 ^ 64 - 1)

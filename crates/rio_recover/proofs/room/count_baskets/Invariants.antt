use Rattle.std.proofs.Common.{◌≡◌, ◌-◌, ◌^◌, length, min, take}
use Rattle.rio_recover.proofs.PlacesNoted.{branch_places}
use Rattle.rio_recover.proofs.room.count_baskets.Given as goal

abbrev pub invariant-loop-branch : goal.invariant-loop-branch
invariant-loop-branch l = l.count ≡ min (length (branch_places (take l.branch-index l.branch-items))) (2 ^ 64 - 1)

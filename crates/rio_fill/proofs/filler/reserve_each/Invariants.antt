use Rattle.std.proofs.Common.{◌≡◌, ◌++◌, drop, map, take}
use Rattle.std.specs.Option.{option_copied}
use Rattle.rio_fill.specs.Room.{branches_reserved, entries_behind, without_room}
use Rattle.rio_fill.proofs.filler.reserve_each.Given as goal

abbrev pub invariant-loop-k : goal.invariant-loop-k
invariant-loop-k l =
    (take l.k l.branches ++ branches_reserved (drop l.k l.branches) (entries_behind (option_copied l.row) l.k) ≡ branches_reserved l.fn.branches (option_copied l.row))
    × (map without_room l.branches ≡ map without_room l.fn.branches)

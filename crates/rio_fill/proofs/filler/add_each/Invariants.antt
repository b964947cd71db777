use Rattle.std.proofs.Common.{◌≡◌, ◌++◌, drop, take, true}
use Rattle.rio_fill.specs.{Fill.{branches_added}, Room.{may_add}}
use Rattle.rio_fill.proofs.filler.add_each.Given as goal

abbrev pub invariant-loop-k : goal.invariant-loop-k
invariant-loop-k l =
    (take l.k l.branches ++ branches_added (drop l.k l.branches) (drop l.k l.row) ≡ branches_added l.fn.branches l.row)
    × (may_add (drop l.k l.branches) (drop l.k l.row) ≡ true)

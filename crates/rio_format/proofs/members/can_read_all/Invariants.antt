use Rattle.std.proofs.Common.{◌≡◌, ℕ, List, [], drop}
use Rattle.rio_format.specs.{CounterSet.{HasNames}, Members.{can_read_all}}
use Rattle.rio_format.proofs.members.can_read_all.Given as goal

abbrev pub invariant-loop-member : goal.invariant-loop-member
invariant-loop-member l =
    (names : List (List ℕ))
    × HasNames l.counters names
    × (can_read_all names (drop l.member-index l.members) ≡ can_read_all [] l.members)

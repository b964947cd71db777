use Rattle.std.proofs.Common.{◌≡◌, ◌++◌, map, take}
use Rattle.rio_session.proofs.baskets.push_places.Given as goal

abbrev pub invariant-loop-at : goal.invariant-loop-at
invariant-loop-at l = l.places.items ≡ l.fn.places.items ++ map (λ at. at.seek) (take l.at-index l.baskets)

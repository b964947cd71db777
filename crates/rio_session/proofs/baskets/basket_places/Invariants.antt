use Rattle.std.proofs.Common.{◌≡◌, map, take}
use Rattle.std.specs.List.{flat_map}
use Rattle.rio_session.proofs.baskets.basket_places.Given as goal

abbrev pub invariant-loop-k : goal.invariant-loop-k
invariant-loop-k l = l.places.items ≡ flat_map (λ b. map (λ at. at.seek) b.baskets) (take l.k l.tree.fill.branches)

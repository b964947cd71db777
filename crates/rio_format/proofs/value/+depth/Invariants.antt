use Rattle.std.proofs.Common.{◌≡◌, ◌≤◌, min, max, map, drop}
use Rattle.rio_format.specs.Depth.{depth_of, greatest}
use Rattle.rio_format.proofs.value.+depth.Given as goal

abbrev pub invariant-items_depth-loop-item : goal.invariant-items_depth-loop-item
invariant-items_depth-loop-item l = (min (max l.deepest (greatest (map depth_of (drop l.item-index l.items)))) 4294967295 ≡ min (greatest (map depth_of l.items)) 4294967295) × (l.deepest ≤ 4294967295)

abbrev pub invariant-parts_depth-loop-part : goal.invariant-parts_depth-loop-part
invariant-parts_depth-loop-part l = (min (max l.deepest (greatest (map (λ p. depth_of p.value) (drop l.part-index l.parts)))) 4294967295 ≡ min (greatest (map (λ p. depth_of p.value) l.parts)) 4294967295) × (l.deepest ≤ 4294967295)

use Rattle.std.proofs.Common.{◌≡◌, max, map, drop, length}
use Rattle.rio_format.specs.{Depth.{greatest}, LongestList.{longest_list_of}}
use Rattle.rio_format.proofs.longest.+longest.Given as goal

abbrev pub invariant-longest_of_items-loop-item : goal.invariant-longest_of_items-loop-item
invariant-longest_of_items-loop-item l = max l.longest (greatest (map longest_list_of (drop l.item-index l.items))) ≡ max (length l.items) (greatest (map longest_list_of l.items))

abbrev pub invariant-longest_of_parts-loop-part : goal.invariant-longest_of_parts-loop-part
invariant-longest_of_parts-loop-part l = max l.longest (greatest (map (λ p. longest_list_of p.value) (drop l.part-index l.parts))) ≡ greatest (map (λ p. longest_list_of p.value) l.parts)

use Rattle.std.proofs.Common.{◌≡◌, ◌++◌, drop}
use Rattle.std.specs.List.{flat_map}
use Rattle.rio_reply.specs.Told.{item_line}
use Rattle.rio_reply.proofs.item.put_items.Given as goal

abbrev pub invariant-loop-head : goal.invariant-loop-head
invariant-loop-head l = l.text.bytes ++ flat_map (item_line l.trees.trees) (drop l.head-index l.heads) ≡ l.fn.text.bytes ++ flat_map (item_line l.trees.trees) l.heads

use Rattle.std.proofs.Common.{◌≡◌, ◌++◌, drop, map, codes}
use Rattle.std.specs.List.{flat_map}
use Rattle.rio_num.specs.Printed.{item_text}
use Rattle.rio_step.specs.KeptItems.{item_of_key}
use Rattle.rio_reply.proofs.item.put_names.Given as goal

abbrev pub invariant-loop-head : goal.invariant-loop-head
invariant-loop-head l =
    l.text.bytes ++ flat_map (λ item. codes " " ++ item_text item.0 item.1) (map item_of_key (drop l.head-index l.heads))
    ≡ l.fn.text.bytes ++ flat_map (λ item. codes " " ++ item_text item.0 item.1) (map item_of_key l.heads)

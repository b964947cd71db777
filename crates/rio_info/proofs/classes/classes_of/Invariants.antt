use Rattle.std.proofs.Common.{◌≡◌, ◌++◌, drop}
use Rattle.std.specs.List.{filter_map}
use Rattle.rio_format.specs.ClassList.{item_class}
use Rattle.rio_info.proofs.classes.classes_of.Given as goal

abbrev pub invariant-loop-item : goal.invariant-loop-item
invariant-loop-item l = l.classes ++ filter_map item_class (drop l.item-index l.item-items) ≡ filter_map item_class l.item-items

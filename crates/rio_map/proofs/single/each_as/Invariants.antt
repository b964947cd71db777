use Rattle.std.proofs.Common.{◌≡◌, ◌++◌, drop}
use Rattle.std.specs.Option.{option_map}
use Rattle.rio_model.specs.Mapping.{each_as}
use Rattle.rio_map.proofs.single.each_as.Given as goal

abbrev pub invariant-loop-item : goal.invariant-loop-item
invariant-loop-item l =
    option_map (λ vs. l.converted ++ vs) (each_as l.from l.to (drop l.item-index l.items)) ≡ each_as l.from l.to l.items

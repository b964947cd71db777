use Rattle.std.proofs.Common.{◌≡◌, List, [], ◌++◌, map, drop, Option}
use Rattle.std.specs.Option.{option_map}
use Rattle.rio_model.specs.Resolving.{each_resolved, resolving_of, resolving_of_part}
use Rattle.rio_format.specs.Slots.{body_bases}
use Rattle.rio_valtext.proofs.resolving.+resolve.Given as goal

-- the items that were resolved so far, before the others
abbrev with_resolved : {A : Type 0} → List A → Option (List A) → Option (List A)
with_resolved front = option_map (λ xs. front ++ xs)

abbrev pub invariant-resolve_items-loop-item : goal.invariant-resolve_items-loop-item
invariant-resolve_items-loop-item l =
    with_resolved l.resolved (each_resolved [] (map (resolving_of l.classes) (drop l.item-index l.items))) ≡ each_resolved [] (map (resolving_of l.classes) l.items)

abbrev pub invariant-resolve_parts-loop-part : goal.invariant-resolve_parts-loop-part
invariant-resolve_parts-loop-part l =
    with_resolved l.resolved (each_resolved (body_bases l.around) (map (resolving_of_part l.classes) (drop l.part-index l.parts))) ≡ each_resolved (body_bases l.around) (map (resolving_of_part l.classes) l.parts)

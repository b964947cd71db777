use Rattle.std.proofs.Common.{◌≡◌, drop}
use Rattle.std.specs.List.{flat_map}
use Rattle.rio_tree.specs.{Labels.{labelled_in, or_labelled}, Tables.{labels_of}}
use Rattle.rio_tree.proofs.labels.+labels.Given as goal

abbrev pub invariant-note_items-loop-item : goal.invariant-note_items-loop-item
invariant-note_items-loop-item l = or_labelled (labels_of l.table) (flat_map labelled_in (drop l.item-index l.items)) ≡ or_labelled (labels_of l.fn.table) (flat_map labelled_in l.items)

abbrev pub invariant-note_parts-loop-part : goal.invariant-note_parts-loop-part
invariant-note_parts-loop-part l = or_labelled (labels_of l.table) (flat_map (λ p. labelled_in p.value) (drop l.part-index l.parts)) ≡ or_labelled (labels_of l.fn.table) (flat_map (λ p. labelled_in p.value) l.parts)

use Rattle.std.proofs.Common.{◌≡◌, ◌∙◌, [], ap, rules, sym}
use Rattle.rio_format.specs.declared.value.Value.{out-Value}
use Rattle.rio_tree.specs.{Labels.{labelled_in, or_labelled}, Tables.{labels_of}}
use Rattle.rio_tree.proofs.LabelLaws.{labelled-List, labelled-Object, labelled-Pointed, labelled_all, labelled_behind, labelled_by_layer, labelled_more, labelled_none, layer_labelled}
use Rattle.rio_tree.proofs.labels.+labels.Goals as goal

pub note_items-loop-item-preserved : goal.note_items-loop-item-preserved
note_items-loop-item-preserved t c =
    labelled_more labelled_in (labels_of c.loop-item.table) (labels_of c.note_within.new.table) c.args.items.now c.loop-item.item-index c.item-item.result c.loop-item-test.true c.item-item.is c.in_ok-note_within.ensures
    ∙ c.loop-item.invariant

pub note_items-returns : goal.note_items-returns
note_items-returns t c =
    sym (labelled_all labelled_in (labels_of c.loop-item.table) c.args.items.now c.loop-item.item-index c.loop-item-test.false) ∙ c.loop-item.invariant

pub note_parts-loop-part-preserved : goal.note_parts-loop-part-preserved
note_parts-loop-part-preserved t c =
    labelled_more (λ p. labelled_in p.value) (labels_of c.loop-part.table) (labels_of c.note_within.new.table) c.args.parts.now c.loop-part.part-index c.part-item.result c.loop-part-test.true c.part-item.is c.in_ok-note_within.ensures
    ∙ c.loop-part.invariant

pub note_parts-returns : goal.note_parts-returns
note_parts-returns t c =
    sym (labelled_all (λ p. labelled_in p.value) (labels_of c.loop-part.table) c.args.parts.now c.loop-part.part-index c.loop-part-test.false) ∙ c.loop-part.invariant

pub note_within-returns-in-List : goal.note_within-returns-in-List
note_within-returns-in-List t c =
    let whole = ap labelled_in c.in-List.is ∙ labelled-List _ in
    rw (whole, ← c.as_slice.ensures) c.note_items.ensures

pub note_within-returns-in-Object : goal.note_within-returns-in-Object
note_within-returns-in-Object t c =
    let whole = ap labelled_in c.in-Object.is ∙ labelled-Object _ _ _ in
    rw (whole, ← c.as_slice-in-Object.ensures) c.note_parts.ensures

pub note_within-returns-in_ok-note-in-Pointed : goal.note_within-returns-in_ok-note-in-Pointed
note_within-returns-in_ok-note-in-Pointed t c =
    let whole = ap labelled_in c.in-Pointed.is ∙ labelled-Pointed _ _ in
    let both = labelled_behind (labels_of c.args.table.now) (labels_of c.note.new.self) _ _ _ _ c.get.ensures c.get-in-Pointed.ensures c.in_ok-note-in-Pointed.ensures in
    rw (whole, ← both) c.note_within.ensures

pub note_within-returns-in_default : goal.note_within-returns-in_default
note_within-returns-in_default t c =
    let none : layer_labelled (out-Value c.args.value.now) ≡ [] = search rules in
    sym (ap (or_labelled (labels_of c.args.table.now)) (labelled_by_layer c.args.value.now ∙ none) ∙ labelled_none (labels_of c.args.table.now))

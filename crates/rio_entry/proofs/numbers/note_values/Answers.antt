use Rattle.std.proofs.Common.{◌∙◌, List, subst, sym, ap}
use Rattle.std.specs.Prelude.{OnOk}
use Rattle.rio_leaf.specs.{declared.branch.Shape.{Shape}, declared.leaf.Leaf.{Leaf}}
use Rattle.rio_format.specs.{Bodies.{Counters}, Counts.{SaysAsFirst}}
use Rattle.rio_machine.specs.Rows.{leaf_numbers_after, shape_columns}
use Rattle.rio_entry.specs.Leaves.{numbers_after}
use Rattle.rio_entry.proofs.RowReads.{numbers_as_columns}
use Rattle.rio_entry.proofs.numbers.note_values.Goals as goal

pub returns-in-Leaves : goal.returns-in-Leaves
returns-in-Leaves c = λ before says.
    let vs = c.args.values.now in
    let same =
    ap (λ (ls : List Leaf). numbers_after ls vs before) c.as_slice.ensures
    ∙ numbers_as_columns c.in-Leaves.leaves vs before
    ∙ ap (λ (shape : Shape). leaf_numbers_after (shape_columns shape) vs before) (sym c.in-Leaves.is) in
    subst (λ (now : Counters). OnOk c.note_leaves.result (SaysAsFirst c.note_leaves.new.numbers now)) same (c.note_leaves.ensures before says)

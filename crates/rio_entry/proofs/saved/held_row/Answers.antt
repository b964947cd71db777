use Rattle.std.proofs.Common.{List, map, ap, sym, ◌∙◌}
use Rattle.std.specs.Option.{option_and_then, option_map}
use Rattle.rio_tree.specs.WrittenLaws.{stated_defs}
use Rattle.rio_entry.specs.declared.part.RowPart.{RowPart}
use Rattle.rio_machine.specs.RowEntries.{fitting_row}
use Rattle.rio_entry.proofs.Left.{if_ok_more}
use Rattle.rio_entry.proofs.saved.held_row.Goals as goal

pub returns-in-Some : goal.returns-in-Some
returns-in-Some c =
    let fit = fitting_row c.args.tree.now.classes.now (stated_defs c.args.tree.now.branches.now) in
    if_ok_more c.fitting_row.result c.fitting_row.ensures (λ row is file hold.
    is
    ∙ ap (λ (parts : List RowPart). fit (map (λ part. part.entry.now) parts)) c.as_slice.ensures.value
    ∙ ap (option_and_then fit) (ap (option_map (λ parts. map (λ part. part.entry.now) parts.items)) (sym c.in-Some.is) ∙ c.in_ok-parts.ensures.entries file hold))

pub returns-in-None : goal.returns-in-None
returns-in-None c = λ file hold.
    let fit = fitting_row c.args.tree.now.classes.now (stated_defs c.args.tree.now.branches.now) in
    ap (option_and_then fit) (ap (option_map (λ parts. map (λ part. part.entry.now) parts.items)) (sym c.in-None.is) ∙ c.in_ok-parts.ensures.entries file hold)

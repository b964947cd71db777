use Rattle.std.proofs.Common.{List, is_some, sym, ap, ◌∙◌}
use Rattle.std.specs.List.{list_all, range_with_len}
use Rattle.rio_tree.specs.declared.head.Branch.{Branch}
use Rattle.rio_entry.specs.SavedRows.{is_whole, row_there}
use Rattle.rio_entry.proofs.{Left.{if_ok_more}, SavedTrees.{not_whole, whole_rows}}
use Rattle.rio_entry.proofs.saved.are_file_rows.Goals as goal

pub returns-then-not-are_whole-clause-saved : goal.returns-then-not-are_whole-clause-saved
returns-then-not-are_whole-clause-saved g c = λ order file told.
    not_whole file c.args.classes.now c.args.head.now (ap (list_all is_whole) (sym c.as_slice-branches.ensures) ∙ sym c.are_whole.ensures ∙ c.if-not-are_whole.true)

pub returns-clause-saved : goal.returns-clause-saved
returns-clause-saved g c =
    if_ok_more c.are_rows_there.result c.are_rows_there.ensures.there (λ saved is order file told.
    is file told
    ∙ ap (λ (bs : List Branch). list_all (λ e. is_some (row_there file c.args.classes.now bs e)) (range_with_len 0 c.args.head.now.entries)) c.as_slice-branches.ensures
    ∙ whole_rows file c.args.classes.now c.args.head.now order (ap (list_all is_whole) (sym c.as_slice-branches.ensures) ∙ sym c.are_whole.ensures ∙ c.if-not-are_whole.false))

pub returns-clause-whole : goal.returns-clause-whole
returns-clause-whole g c =
    if_ok_more c.are_rows_there.result c.are_rows_there.ensures.there (λ saved is there.
    ap (list_all is_whole) (sym c.as_slice-branches.ensures) ∙ sym c.are_whole.ensures ∙ c.if-not-are_whole.false)

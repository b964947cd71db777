use Rattle.std.proofs.{Common.{◌≡◌, List, None, drop, get_or, ◌+◌, sym, ap, ◌∙◌, arith}, lemmas.Result.{err_from_is_err_and}}
use Rattle.rio_format.specs.declared.value.Value.{Value}
use Rattle.rio_step.specs.Refusing.{row_seen_by}
use Rattle.rio_report.specs.{RowTexts.{values_unrefused}, Versions.{seen_behind, value_seen_in}}
use Rattle.rio_entry.specs.BranchRows.{read_values}
use Rattle.rio_report.proofs.{SeenLaws.{seen_append, then_seen}, ValueTexts.{read_more}}
use Rattle.rio_report.proofs.versions.seen_values.Goals as goal

pub returns-in_err-push_branch_seen : goal.returns-in_err-push_branch_seen
returns-in_err-push_branch_seen c =
    let p = err_from_is_err_and c.from_residual.result c.from_residual.ensures.1 in
    let see = value_seen_in c.args.classes.now c.args.form.now.class in
    let rs = c.args.refusals.now in
    let k = c.loop-k.k in
    let v = c.index-values-k.result in
    let row = c.loop-k.row in
    let one = values_unrefused (get_or rs k None) v in
    let rest = read_values (drop (k + 1) rs) (drop (k + 1) c.args.values.now) in
    rw (p.1, p.2) (λ lack.
    sym c.loop-k.invariant
    ∙ ap (λ (l : List Value). seen_behind row (row_seen_by see l)) (read_more rs c.args.values.now k None v (omega arith) (omega arith) c.index-values-k.is)
    ∙ seen_append see one rest row
    ∙ ap (then_seen see rest) (c.in_err-push_branch_seen.ensures lack))

pub loop-k-preserved : goal.loop-k-preserved
loop-k-preserved c =
    let see = value_seen_in c.args.classes.now c.args.form.now.class in
    let rs = c.args.refusals.now in
    let k = c.loop-k.k in
    let v = c.index-values-k.result in
    let row = c.loop-k.row in
    let one = values_unrefused (get_or rs k None) v in
    let rest = read_values (drop (k + 1) rs) (drop (k + 1) c.args.values.now) in
    sym (ap (then_seen see rest) c.in_ok-push_branch_seen.ensures)
    ∙ sym (seen_append see one rest row)
    ∙ ap (λ (l : List Value). seen_behind row (row_seen_by see l)) (sym (read_more rs c.args.values.now k None v (omega arith) (omega arith) c.index-values-k.is))
    ∙ c.loop-k.invariant

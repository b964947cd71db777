use Rattle.std.proofs.Common.{true≢false, List, Option, sym, ap, ◌∙◌}
use Rattle.rio_machine.specs.declared.refusal.Refusal.{Refusal}
use Rattle.rio_tree.specs.declared.refusal.BranchRefusal.{BranchRefusal}
use Rattle.rio_format.specs.declared.value.Value.{Value}
use Rattle.rio_step.specs.Refusing.{row_seen_in}
use Rattle.rio_entry.specs.{declared.tree_row.TreeRow.{TreeRow}, Refusals.{refusals_of}, BranchRows.{read_values, values_at_entry}, Sweeps.{sweep}}
use Rattle.rio_report.specs.RowForms.{refused_by}
use Rattle.rio_entry.proofs.{CheckedRows.{all_is_made}, SweepLaws.{last_row}}
use Rattle.rio_report.proofs.row_refusal.row_refusal.Goals as goal

pub read_tree_row-requires-clause-counters : goal.read_tree_row-requires-clause-counters
read_tree_row-requires-clause-counters g c = λ k b is. all_is_made b.counted_by

pub returns-then-not-are_kept-clause-refusal : goal.returns-then-not-are_kept-clause-refusal
returns-then-not-are_kept-clause-refusal g c file told entries lt is are =
    let classes = c.args.tree.now.classes.now in
    let bs = c.args.tree.now.branches.now in
    let e = c.args.entry in
    let swept = (c.in_ok-row.ensures.row file told are).0 ∙ ap (sweep file classes e bs) (c.as_slice.ensures ∙ is) in
    let kept = c.are_kept.ensures (ap (λ (row : TreeRow). row.refusals) swept ∙ (last_row file classes e entries bs lt).0 ∙ sym is) in
    absurd (true≢false (sym kept ∙ c.if-not-are_kept.true))

pub returns-then-not-are_kept-clause-kept : goal.returns-then-not-are_kept-clause-kept
returns-then-not-are_kept-clause-kept g c file told are = (c.in_ok-row.ensures.row file told are).1

pub returns-clause-refusal : goal.returns-clause-refusal
returns-clause-refusal g c file told entries lt is are =
    let classes = c.args.tree.now.classes.now in
    let bs = c.args.tree.now.branches.now in
    let e = c.args.entry in
    let rs = c.args.refusals.now in
    let last = last_row file classes e entries bs lt in
    let swept = (c.in_ok-row.ensures.row file told are).0 ∙ ap (sweep file classes e bs) (c.as_slice.ensures ∙ is) in
    let values =
    ap (λ (row : TreeRow). read_values rs row.values) swept
    ∙ ap (λ (l : List (Option BranchRefusal)). read_values l (sweep file classes e bs (refusals_of file classes entries bs)).values) is
    ∙ last.1
    ∙ ap (λ (l : List (Option BranchRefusal)). read_values l (values_at_entry file classes e bs)) (sym is) in
    let why : List Value → Option Refusal = λ row. refused_by (row_seen_in classes c.args.form.now.class row) in
    c.in_ok-values_refusal.ensures
    ∙ ap (λ (l : List (Option BranchRefusal)). why (read_values l c.as_slice-3.result.now)) c.as_slice-2.ensures
    ∙ ap (λ (l : List (List Value)). why (read_values rs l)) c.as_slice-3.ensures
    ∙ ap why values

pub returns-clause-kept : goal.returns-clause-kept
returns-clause-kept g c file told are = (c.in_ok-row.ensures.row file told are).1

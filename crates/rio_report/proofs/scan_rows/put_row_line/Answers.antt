use Rattle.std.proofs.Common.{◌≡◌, ◌++◌, true≢false, List, None, Option, sym, ap, ◌∙◌}
use Rattle.rio_num.specs.Room.{Room}
use Rattle.rio_tree.specs.declared.refusal.BranchRefusal.{BranchRefusal}
use Rattle.rio_format.specs.declared.value.Value.{Value}
use Rattle.rio_step.specs.Refusing.{row_seen_in}
use Rattle.rio_entry.specs.{declared.tree_row.TreeRow.{TreeRow}, Refusals.{refusals_of}, BranchRows.{read_values, row_at, values_at_entry}, Sweeps.{sweep}}
use Rattle.rio_entry.proofs.{CheckedRows.{all_is_made}, SweepLaws.{last_row}}
use Rattle.rio_report.specs.RowTexts.{had_line}
use Rattle.rio_report.proofs.SeenLaws.{had_is}
use Rattle.rio_report.proofs.scan_rows.put_row_line.Goals.{then-are_kept+in_ok-put_row, else-are_kept+in_ok-put_row_fault}
use Rattle.rio_report.proofs.scan_rows.put_row_line.Goals as goal

pub read_tree_row-requires-clause-counters : goal.read_tree_row-requires-clause-counters
read_tree_row-requires-clause-counters g c = λ k b is. all_is_made b.counted_by

pub returns-clause-line : goal.returns-clause-line
returns-clause-line g c file told entries lt is are had =
    let classes = c.args.tree.now.classes.now in
    let bs = c.args.tree.now.branches.now in
    let e = c.args.entry in
    let rs = c.args.refusals.now in
    let form = c.args.form.now in
    let text = c.args.text.now.bytes in
    let last = last_row file classes e entries bs lt in
    let swept = (c.in_ok-row.ensures.row file told are).0 ∙ ap (sweep file classes e bs) (c.as_slice.ensures ∙ is) in
    let kept = c.are_kept.ensures (ap (λ (row : TreeRow). row.refusals) swept ∙ last.0 ∙ sym is) in
    let values =
    ap (λ (row : TreeRow). read_values rs row.values) swept
    ∙ ap (λ (l : List (Option BranchRefusal)). read_values l (sweep file classes e bs (refusals_of file classes entries bs)).values) is
    ∙ last.1
    ∙ ap (λ (l : List (Option BranchRefusal)). read_values l (values_at_entry file classes e bs)) (sym is) in
    let line : List Value → List _ = λ l. text ++ had_line form.csv e (row_seen_in classes form.class l) in
    elim c.if-are_kept.branch [
      | then-are_kept+in_ok-put_row w ↦
          ap (λ (r : Room). r.bytes) w.text-is
          ∙ w.in_ok-put_row.ensures
          ∙ ap (λ (l : List (Option BranchRefusal)). line (read_values l w.as_slice-values.result.now)) w.as_slice-then-are_kept.ensures
          ∙ ap (λ (l : List (List Value)). line (read_values rs l)) w.as_slice-values.ensures
          ∙ ap line values
          ∙ ap (λ (l : List _). text ++ l) (had_is form.csv e (row_at file classes bs rs e) (row_seen_in classes form.class (row_at file classes bs rs e)) had)
      | else-are_kept+in_ok-put_row_fault w ↦ absurd (true≢false (sym kept ∙ w.if-are_kept.false))
    ]

pub returns-clause-kept : goal.returns-clause-kept
returns-clause-kept g c file told are = (c.in_ok-row.ensures.row file told are).1

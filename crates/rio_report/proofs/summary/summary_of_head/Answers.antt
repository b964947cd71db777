use Rattle.std.proofs.Common.{◌≡◌, ◌∙◌, ℕ, List, sym, ap}
use Rattle.rio_format.specs.declared.class.ClassDef.{ClassDef}
use Rattle.rio_tree.specs.declared.head.Branch.{Branch}
use Rattle.rio_entry.proofs.Left.{if_ok_more}
use Rattle.rio_report.specs.Summary.{basket_count, declared_in, summary_to}
use Rattle.rio_report.proofs.summary.summary_of_head.Goals as goal

pub returns-clause-summary : goal.returns-clause-summary
returns-clause-summary g c =
    let entries = c.args.head.now.entries in
    let branches = c.as_slice-branches.ensures in
    let baskets = c.in_ok-baskets.ensures ∙ ap basket_count branches in
    let declared = c.in_ok-declared.ensures ∙ c.declared_in.ensures ∙ ap declared_in c.as_slice.ensures in
    if_ok_more c.sum_rows.result c.sum_rows.ensures.summary (λ s is file told.
    is file told ∙ (λ i. summary_to file (declared i) (branches i) entries (baskets i) entries))

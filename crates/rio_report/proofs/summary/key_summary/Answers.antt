use Rattle.std.proofs.Common.{◌∙◌, sym}
use Rattle.rio_entry.proofs.Left.{if_ok_more}
use Rattle.rio_report.proofs.Summaries.{compressed_summary, read_summary, unread_summary}
use Rattle.rio_report.proofs.summary.key_summary.Goals as goal

pub returns-then-is_compressed-clause-summary : goal.returns-then-is_compressed-clause-summary
returns-then-is_compressed-clause-summary g c file told =
    c.no_summary.ensures ∙ compressed_summary file c.args.classes.now c.args.key.now (sym c.is_compressed.ensures ∙ c.if-is_compressed.true)

pub returns-in-Ok-clause-summary : goal.returns-in-Ok-clause-summary
returns-in-Ok-clause-summary g c =
    if_ok_more c.summary_of_head.result c.summary_of_head.ensures.summary (λ s is file told.
    is file (c.read_stored_tree.ensures.calls.holds ∙ told)
    ∙ read_summary file c.args.classes.now c.args.key.now c.in-Ok.head (sym c.is_compressed.ensures ∙ c.if-is_compressed.false) (rw c.in-Ok.is at (c.in_ok-head.ensures.found file told)))

pub returns-clause-summary : goal.returns-clause-summary
returns-clause-summary g c file told =
    c.no_summary-in-Err.ensures
    ∙ unread_summary file c.args.classes.now c.args.key.now _ (sym c.is_compressed.ensures ∙ c.if-is_compressed.false) (rw c.in-Err.is at (c.in_ok-head.ensures.found file told))

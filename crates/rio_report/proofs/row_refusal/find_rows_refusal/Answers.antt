use Rattle.std.proofs.Common.{sym}
use Rattle.rio_entry.specs.BranchRows.{rows_of}
use Rattle.rio_report.proofs.SeenLaws.{refused_none}
use Rattle.rio_report.proofs.row_refusal.find_rows_refusal.Goals as goal

pub returns-in-None-clause-refusal : goal.returns-in-None-clause-refusal
returns-in-None-clause-refusal g c file told =
    refused_none c.args.tree.now.classes.now c.args.form.now.class (rows_of file c.args.tree.now.classes.now c.args.tree.now.branches.now c.args.refusals.now c.args.entries) (sym c.in-None.ensures)

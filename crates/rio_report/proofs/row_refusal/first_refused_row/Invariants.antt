use Rattle.std.proofs.Common.{◌≡◌, ℕ, List, Some, drop, length}
use Rattle.std.specs.List.{range_with_len}
use Rattle.rio_host.specs.OnlyReads.{OnlyReads}
use Rattle.rio_close.specs.Causes.{NoDiskFault}
use Rattle.rio_step.specs.Refusing.{rows_seen_in}
use Rattle.rio_entry.specs.{Lanes.{AreLanes}, BranchRows.{row_at, rows_of}}
use Rattle.rio_report.specs.RowForms.{refused_by}
use Rattle.rio_report.proofs.SeenLaws.{refused_from}
use Rattle.rio_report.proofs.row_refusal.first_refused_row.Given as goal

abbrev pub invariant-loop-entry : goal.invariant-loop-entry
invariant-loop-entry g l = record {
  calls : OnlyReads (g.H.Host.view l.fn.host) (g.H.Host.view l.host);
  calm : NoDiskFault (g.H.Host.view l.fn.host) (g.H.Host.view l.host);
  had : (file : List ℕ) → (g.H.Host.view l.fn.host).holds ≡ Some file
      → refused_from l.tree.classes.now l.form.class (row_at file l.tree.classes.now l.tree.branches.now l.refusals) (drop l.entry (range_with_len 0 l.entries))
      ≡ refused_by (rows_seen_in l.tree.classes.now l.form.class (rows_of file l.tree.classes.now l.tree.branches.now l.refusals l.entries));
  lanes : (file : List ℕ) → (g.H.Host.view l.fn.host).holds ≡ Some file → AreLanes file l.entry l.tree.branches.now l.lanes.items;
  width : length l.lanes.items ≡ length l.tree.branches.now;
}

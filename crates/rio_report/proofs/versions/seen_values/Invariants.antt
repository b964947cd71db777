use Rattle.std.proofs.Common.{◌≡◌, drop}
use Rattle.rio_step.specs.Refusing.{row_seen_by}
use Rattle.rio_entry.specs.BranchRows.{read_values}
use Rattle.rio_report.specs.Versions.{seen_behind, value_seen_in}
use Rattle.rio_report.proofs.versions.seen_values.Given as goal

abbrev pub invariant-loop-k : goal.invariant-loop-k
invariant-loop-k l =
    seen_behind l.row (row_seen_by (value_seen_in l.classes l.form.class) (read_values (drop l.k l.refusals) (drop l.k l.values)))
    ≡ row_seen_by (value_seen_in l.classes l.form.class) (read_values l.refusals l.values)

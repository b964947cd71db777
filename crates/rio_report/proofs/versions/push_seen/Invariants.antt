use Rattle.std.proofs.Common.{◌≡◌, drop}
use Rattle.rio_step.specs.Refusing.{row_seen_by}
use Rattle.rio_report.specs.Versions.{seen_behind, value_seen_in}
use Rattle.rio_report.proofs.versions.push_seen.Given as goal

abbrev pub invariant-loop-value : goal.invariant-loop-value
invariant-loop-value l =
    seen_behind l.row (row_seen_by (value_seen_in l.classes l.form.class) (drop l.value-index l.values))
    ≡ seen_behind l.fn.row (row_seen_by (value_seen_in l.classes l.form.class) l.values)

use Rattle.std.proofs.Common.{◌≡◌, drop}
use Rattle.rio_model.specs.Mapping.{as_version}
use Rattle.rio_step.specs.Refusing.{row_seen_by}
use Rattle.rio_reply.specs.Scanned.{seen_behind}
use Rattle.rio_reply.proofs.scan.push_seen.Given as goal

abbrev pub invariant-loop-value : goal.invariant-loop-value
invariant-loop-value l =
    seen_behind l.row (row_seen_by (as_version l.classes l.asked.name l.asked.version) (drop l.value-index l.values))
    ≡ seen_behind l.fn.row (row_seen_by (as_version l.classes l.asked.name l.asked.version) l.values)

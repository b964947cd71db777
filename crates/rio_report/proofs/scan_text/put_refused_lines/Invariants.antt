use Rattle.std.proofs.Common.{◌≡◌, ◌++◌, drop}
use Rattle.rio_report.specs.Scan.{refused_lines}
use Rattle.rio_report.proofs.scan_text.put_refused_lines.Given as goal

abbrev pub invariant-loop-k : goal.invariant-loop-k
invariant-loop-k l = l.text.bytes ++ refused_lines (drop l.k l.branches) (drop l.k l.refusals) ≡ l.fn.text.bytes ++ refused_lines l.branches l.refusals

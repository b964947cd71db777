use Rattle.std.proofs.Common.{◌≡◌, drop}
use Rattle.std.specs.Option.{option_copied}
use Rattle.rio_report.specs.Scan.{tree_key}
use Rattle.rio_report.specs.GreatestCycle.{greatest_cycle_of}
use Rattle.rio_report.proofs.scan.tree_key.Given as goal

abbrev pub invariant-loop-key : goal.invariant-loop-key
invariant-loop-key l = greatest_cycle_of (option_copied l.best) (tree_key l.name (drop l.key-index l.keys)) ≡ tree_key l.name l.keys

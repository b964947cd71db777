use Rattle.std.proofs.Common.{◌≡◌, drop}
use Rattle.std.specs.Option.{option_copied}
use Rattle.rio_report.specs.Item.{with_greatest_cycle}
use Rattle.rio_report.specs.GreatestCycle.{greatest_cycle_of}
use Rattle.rio_report.proofs.item.with_greatest_cycle.Given as goal

abbrev pub invariant-loop-key : goal.invariant-loop-key
invariant-loop-key l = greatest_cycle_of (option_copied l.best) (with_greatest_cycle l.name (drop l.key-index l.keys)) ≡ with_greatest_cycle l.name l.keys

use Rattle.std.proofs.Common.{◌≡◌, ◌+◌, drop}
use Rattle.rio_report.specs.Summary.{basket_count}
use Rattle.rio_report.proofs.summary.count_baskets.Given as goal

abbrev pub invariant-loop-branch : goal.invariant-loop-branch
invariant-loop-branch l = l.count + basket_count (drop l.branch-index l.branches) ≡ basket_count l.branches

use Rattle.std.proofs.Common.{◌≡◌, ◌++◌, drop, map}
use Rattle.rio_index.specs.Scan.{empty_lane}
use Rattle.rio_index.proofs.scanner.empty_lanes.Given as goal

abbrev pub invariant-loop-branch : goal.invariant-loop-branch
invariant-loop-branch l = l.lanes.items ++ map empty_lane (drop l.branch-index l.branches) ≡ map empty_lane l.branches

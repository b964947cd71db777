use Rattle.std.proofs.Common.{◌≡◌, drop}
use Rattle.std.specs.List.{flat_map}
use Rattle.rio_entry.specs.Checked.{counters_alone, with_numbers}
use Rattle.rio_entry.proofs.checked.counters_alone.Given as goal

abbrev pub invariant-loop-branch : goal.invariant-loop-branch
invariant-loop-branch l = with_numbers l.made.items (flat_map (λ b. b.counted_by) (drop l.branch-index l.branches)) ≡ counters_alone l.branches

use Rattle.std.proofs.Common.{◌≡◌, ◌++◌, ◌-◌, map}
use Rattle.rio_gen.specs.Generated.{generated_branch, generated_branches, numbers_from}
use Rattle.rio_gen.proofs.script.generated_branches.Given as goal

abbrev pub invariant-loop-number : goal.invariant-loop-number
invariant-loop-number l = l.branches ++ map generated_branch (numbers_from l.number (20 - l.number)) ≡ generated_branches

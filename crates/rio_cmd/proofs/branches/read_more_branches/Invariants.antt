use Rattle.std.proofs.Common.{◌≡◌, ◌-◌, [], length}
use Rattle.rio_step.specs.TreeGrammar.{branch_at, further_at, goes_on}
use Rattle.rio_cmd.proofs.branches.read_more_branches.Given as goal

abbrev pub invariant-loop-done : goal.invariant-loop-done
invariant-loop-done l = record {
  read : further_at (l._done-end - l._done) goes_on branch_at l.tree.branches l.tokens ≡ further_at (length l.fn.tokens.rest) goes_on branch_at l.fn.tree.branches l.fn.tokens;
  whole : l.tree.own ≡ [];
}

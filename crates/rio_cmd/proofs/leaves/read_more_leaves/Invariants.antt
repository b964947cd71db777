use Rattle.std.proofs.Common.{◌≡◌, ◌-◌, ◌<◌, length}
use Rattle.rio_leaf.specs.Stated.{all_leaves}
use Rattle.rio_step.specs.TreeGrammar.{branch_leaf_at, further_at, is_glued_mark}
use Rattle.rio_cmd.proofs.leaves.read_more_leaves.Given as goal

abbrev pub invariant-loop-done : goal.invariant-loop-done
invariant-loop-done l = record {
  read : further_at (l._done-end - l._done) (is_glued_mark 58) (branch_leaf_at (all_leaves l.fn.tree.branches)) l.tree.own l.tokens
      ≡ further_at (length l.fn.tokens.rest) (is_glued_mark 58) (branch_leaf_at (all_leaves l.fn.tree.branches)) l.fn.tree.own l.fn.tokens;
  same : l.tree.branches ≡ l.fn.tree.branches;
  some : 0 < length l.tree.own;
}

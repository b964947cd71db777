use Rattle.std.proofs.Common.{refl, sym, ◌∙◌}
use Rattle.std.proofs.lemmas.Result.{err_from_is_err_and}
use Rattle.rio_step.specs.TreeGrammar.{branch_at, goes_on}
use Rattle.rio_cmd.proofs.FurtherLaws.{further_fails, further_goes_on, further_is_cut, further_stops}
use Rattle.rio_cmd.proofs.KnownTrees.{next_branch, no_next_branch}
use Rattle.rio_cmd.proofs.branches.read_more_branches.Goals as goal

pub returns-then-not-goes_on : goal.returns-then-not-goes_on
returns-then-not-goes_on c =
    rw c.into_branches.ensures (further_stops goes_on branch_at c.left-done-end.result c.loop-done._done c.loop-done.tree.branches c.loop-done.tokens _ c.loop-done-test.true (sym c.goes_on.ensures ∙ c.if-not-goes_on.true) c.loop-done.invariant.read)

pub returns-in_err-tree : goal.returns-in_err-tree
returns-in_err-tree c =
    let loop = c.loop-done in
    let p = err_from_is_err_and c.from_residual.result c.from_residual.ensures.1 in
    rw (p.1, p.2) (λ ne. further_fails goes_on branch_at c.left-done-end.result loop._done loop.tree.branches loop.tokens _ c.loop-done-test.true c.in_err-tree.field-0.0 (sym c.goes_on.ensures ∙ c.if-not-goes_on.false) (no_next_branch loop.tree.branches loop.tokens c.in_err-tree.field-0.0 (c.in_err-tree.ensures ne)) loop.invariant.read)

pub loop-done-preserved : goal.loop-done-preserved
loop-done-preserved c =
    let loop = c.loop-done in
    let next = next_branch loop.tree.branches loop.tokens c.in_ok-tree.tree c.read_branch.new.tokens c.in_ok-tree.ensures in
    rw next.2 (record {
      read = further_goes_on goes_on branch_at c.left-done-end.result loop._done loop.tree.branches loop.tokens _ c.loop-done-test.true next.0 c.read_branch.new.tokens (sym c.goes_on.ensures ∙ c.if-not-goes_on.false) next.1 loop.invariant.read;
      whole = refl;
    })

pub returns : goal.returns
returns c =
    rw c.into_branches-2.ensures (further_is_cut goes_on branch_at c.left-done-end.result c.loop-done._done c.loop-done.tree.branches c.loop-done.tokens _ c.loop-done-test.false c.loop-done.invariant.read)

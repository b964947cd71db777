use Rattle.std.proofs.Common.{◌<◌, ◌++◌, ◌∷◌, [], length, arith, length-append}
use Rattle.std.proofs.lemmas.Result.{err_from_is_err_and}
use Rattle.rio_leaf.specs.Stated.{all_leaves}
use Rattle.rio_step.specs.TreeGrammar.{branch_leaf_at, is_glued_mark}
use Rattle.rio_cmd.specs.Known.{leaf_of}
use Rattle.rio_cmd.proofs.{FurtherLaws.{further_is_cut}, LeafLaws.{leaves_fail, leaves_go_on, leaves_stop}}
use Rattle.rio_cmd.proofs.leaves.read_more_leaves.Goals as goal

pub returns-then-not-take_glued_mark-clause-leaves :
    goal.returns-then-not-take_glued_mark-clause-leaves
returns-then-not-take_glued_mark-clause-leaves c =
    let loop = c.loop-done in
    leaves_stop c.args.tree.branches loop.tree.branches loop.tree.own c.left-done-end.result loop._done loop.tokens _ c.take_glued_mark.result c.take_glued_mark.new.tokens c.loop-done-test.true c.take_glued_mark.ensures.value c.take_glued_mark.ensures.state c.if-not-take_glued_mark.true loop.invariant.read

pub returns-in_err-leaf-clause-leaves : goal.returns-in_err-leaf-clause-leaves
returns-in_err-leaf-clause-leaves c =
    let loop = c.loop-done in
    let p = err_from_is_err_and c.from_residual.result c.from_residual.ensures.1 in
    rw (p.1, p.2) (λ ne. leaves_fail c.args.tree.branches loop.tree.branches loop.tree.own c.left-done-end.result loop._done loop.tokens _ c.take_glued_mark.result c.take_glued_mark.new.tokens c.loop-done-test.true c.take_glued_mark.ensures.value c.take_glued_mark.ensures.state loop.invariant.some loop.invariant.same c.if-not-take_glued_mark.false c.in_err-leaf.field-0.0 (c.in_err-leaf.ensures ne) loop.invariant.read)

pub loop-done-preserved : goal.loop-done-preserved
loop-done-preserved c =
    let loop = c.loop-done in
    let leaf = leaf_of c.in_ok-leaf.leaf.name.now c.in_ok-leaf.leaf.letter c.in_ok-leaf.leaf.dim in
    let more : 0 < length (loop.tree.own ++ leaf ∷ []) = omega (arith, length-append loop.tree.own (leaf ∷ [])) in
    rw c.in_ok-tree.ensures (record {
      read = leaves_go_on c.args.tree.branches loop.tree.branches loop.tree.own c.left-done-end.result loop._done loop.tokens _ c.take_glued_mark.result c.take_glued_mark.new.tokens c.loop-done-test.true c.take_glued_mark.ensures.value c.take_glued_mark.ensures.state loop.invariant.some loop.invariant.same c.if-not-take_glued_mark.false leaf c.read_leaf.new.tokens c.in_ok-leaf.ensures loop.invariant.read;
      same = loop.invariant.same;
      some = more;
    })

pub returns-clause-leaves : goal.returns-clause-leaves
returns-clause-leaves c =
    further_is_cut (is_glued_mark 58) (branch_leaf_at (all_leaves c.args.tree.branches)) c.left-done-end.result c.loop-done._done c.loop-done.tree.own c.loop-done.tokens _ c.loop-done-test.false c.loop-done.invariant.read

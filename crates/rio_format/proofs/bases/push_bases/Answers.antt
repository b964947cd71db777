use Rattle.std.proofs.{Common.{arith}, lemmas.Int.{to_z-of_z}}
use Rattle.rio_format.proofs.BaseLaws.{pushed_more}
use Rattle.rio_format.proofs.bases.push_bases.Goals as goal

pub loop-base-preserved : goal.loop-base-preserved
loop-base-preserved c =
    pushed_more c.args.target.now c.args.bases.now c.loop-base.base-index c.base-item.result c.as_slice.result.now _ c.args.visits.now c.loop-base.visits c.push_base.new.visits
    c.loop-base.invariant (omega arith) c.base-item.is c.as_slice.ensures (grind (arith, to_z-of_z)) (c.in_ok-push_base.ensures.pushed c.if-branch.false)

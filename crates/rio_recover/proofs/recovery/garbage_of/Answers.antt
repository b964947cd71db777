use Rattle.std.proofs.Common.{◌∙◌, ◌+◌, sym, subst}
use Rattle.rio_recover.proofs.Garbage.{LeftSoFar, left_all, left_begins, left_keeps, left_passes}
use Rattle.rio_recover.proofs.recovery.garbage_of.Goals.{then-is_left_over+in_ok-push, else-is_left_over}
use Rattle.rio_recover.proofs.recovery.garbage_of.Goals as goal

pub loop-head-init : goal.loop-head-init
loop-head-init c = subst (LeftSoFar c.args.check.now c.args.info c.args.heads.now 0) (sym c.new-places.ensures) (left_begins c.args.check.now c.args.info c.args.heads.now)

pub loop-head-preserved : goal.loop-head-preserved
loop-head-preserved c =
    let check = c.args.check.now in
    let heads = c.args.heads.now in
    let k = c.loop-head.head-index in
    elim c.if-is_left_over.branch [
      | then-is_left_over+in_ok-push w ↦
          subst (LeftSoFar check c.args.info heads (k + 1)) (sym (w.places-is ∙ w.in_ok-push.ensures.ok))
          (left_passes check c.args.info heads k c.loop-head.places c.head-item.result c.loop-head-test.true c.head-item.is c.loop-head.invariant c.is_left_over.result c.is_left_over.ensures w.if-is_left_over.true)
      | else-is_left_over w ↦
          subst (LeftSoFar check c.args.info heads (k + 1)) (sym w.places-is)
          (left_keeps check c.args.info heads k c.loop-head.places c.head-item.result c.loop-head-test.true c.head-item.is c.loop-head.invariant c.is_left_over.result c.is_left_over.ensures w.if-is_left_over.false)
    ]

pub returns : goal.returns
returns c = left_all c.args.check.now c.args.info c.args.heads.now c.loop-head.head-index c.loop-head.places c.loop-head-test.false c.loop-head.invariant

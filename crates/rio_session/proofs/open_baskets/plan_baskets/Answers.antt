use Rattle.std.proofs.Common.{◌<◌, ◌∙◌, List, length, subst, sym, ap, arith}
use Rattle.rio_fill.specs.Fill.{entry_count}
use Rattle.rio_tree.specs.declared.basket_at.BasketAt.{BasketAt}
use Rattle.rio_session.specs.{Fills.{FilledTree}, declared.steps.Step.{Step}}
use Rattle.rio_session.proofs.Planned.{Planning, planned_next, planned_other, planning_begins, plans_all}
use Rattle.rio_session.proofs.open_baskets.plan_baskets.Goals.{then-is_flagged+in_ok-plan_next, else-is_flagged}
use Rattle.rio_session.proofs.open_baskets.plan_baskets.Goals as goal

pub loop-k-init : goal.loop-k-init
loop-k-init c =
    let t = c.args.tree.now in
    let steps = sym c.new.ensures.items in
    let ats = sym c.new-2.ensures in
    subst (λ (x : List Step × List BasketAt). Planning c.args.datime t.name (entry_count t.fill) t.fill.branches c.args.flags c.args.places.now 0 0 x.0 x.1) (λ i. (steps i, ats i))
    (planning_begins c.args.datime t.name (entry_count t.fill) t.fill.branches c.args.flags c.args.places.now)

pub overflow_add-next : goal.overflow_add-next
overflow_add-next c = omega (arith, c.loop-k.invariant.early, c.loop-k-test.true, c.width-k-end.ensures, c.stays_bounded.ensures.few)

pub loop-k-preserved : goal.loop-k-preserved
loop-k-preserved c =
    let l = c.loop-k in
    let t = c.args.tree.now in
    let lt : l.k < length t.fill.branches = omega (arith, c.loop-k-test.true, c.width-k-end.ensures, ap (λ (x : FilledTree). length x.fill.branches) c.tree.view_is) in
    elim c.if-is_flagged.branch [
      | then-is_flagged+in_ok-plan_next w ↦
          rw (w.next-is, w.planned-is) (planned_next c.args.datime t.name (entry_count t.fill) t.fill.branches c.args.flags c.args.places.now l.k l.next l.planned.steps.items l.planned.ats l.invariant lt
          (sym c.is_flagged.ensures ∙ w.if-is_flagged.true) c.requires.enough w.plan_next.new.planned.steps.items w.plan_next.new.planned.ats w.in_ok-plan_next.ensures)
      | else-is_flagged w ↦
          rw (w.next-is, w.planned-is) (planned_other c.args.datime t.name (entry_count t.fill) t.fill.branches c.args.flags c.args.places.now l.k l.next l.planned.steps.items l.planned.ats l.invariant lt (sym c.is_flagged.ensures ∙ w.if-is_flagged.false))
    ]

pub returns : goal.returns
returns c =
    let l = c.loop-k in
    plans_all c.args.datime c.args.tree.now c.args.flags c.args.places.now l.k l.next l.planned.steps.items l.planned.ats l.invariant (omega (arith, c.loop-k-test.false, c.width-k-end.ensures, ap (λ (x : FilledTree). length x.fill.branches) c.tree.view_is)) c.stays_bounded.ensures (omega arith) c.requires.low

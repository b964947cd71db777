use Rattle.std.proofs.Common.{◌≡◌, ◌∙◌, false, map, subst, sym, ap, refl, arith}
use Rattle.rio_chain.specs.Chains.{ChainState}
use Rattle.rio_session.specs.{ClosingPlans.{CanPlanSaves}, Fills.{bare_tree}}
use Rattle.rio_session.proofs.ClosingPlans.{ArePlannedSoFar, all_planned, can_next, due_more, idle_more, planned_begins}
use Rattle.rio_session.proofs.closing.plan_saves.Goals.{then-is_due+in_ok-plan_tree, else-is_due}
use Rattle.rio_session.proofs.closing.plan_saves.Goals as goal

pub loop-tree-init : goal.loop-tree-init
loop-tree-init c =
    let same = c.in_ok-copy.ensures in
    record {
      sofar = λ s can. rw (same, c.new.ensures.items) (planned_begins s c.args.chain.now.segments c.args.table.now.heads c.args.trees.now c.args.datime can);
      fresh = ap (λ (x : ChainState). x.spent) same ∙ c.requires.fresh;
    }

pub plan_tree-requires-clause-fresh : goal.plan_tree-requires-clause-fresh
plan_tree-requires-clause-fresh c = c.loop-tree.invariant.fresh

pub plan_tree-requires-clause-can : goal.plan_tree-requires-clause-can
plan_tree-requires-clause-can c =
    let l = c.loop-tree in
    let w = c.requires.can in
    can_next c.args.chain.now.segments c.args.table.now.heads c.args.trees.now c.args.datime l.tree-index l.planned.chain.segments l.table.heads l.planned.steps.items l.invariant.sofar _ _ c.loop-tree-test.true c.tree-item.is
    (sym c.is_due.ensures ∙ c.if-is_due.true) w.0 w.1

pub loop-tree-preserved : goal.loop-tree-preserved
loop-tree-preserved c =
    let l = c.loop-tree in
    elim c.if-is_due.branch [
      | then-is_due+in_ok-plan_tree w ↦
          rw (w.planned-is, w.table-is) (record {
            sofar = due_more c.args.chain.now.segments c.args.table.now.heads c.args.trees.now c.args.datime l.tree-index l.planned.chain.segments l.table.heads l.planned.steps.items l.invariant.sofar _ _ c.loop-tree-test.true c.tree-item.is
                (sym c.is_due.ensures ∙ w.if-is_due.true) w.plan_tree.new.planned.chain.segments w.plan_tree.new.table.heads w.plan_tree.new.planned.steps.items w.in_ok-plan_tree.ensures.planned;
            fresh = w.in_ok-plan_tree.ensures.fresh;
          })
      | else-is_due w ↦
          rw (w.planned-is, w.table-is) (record {
            sofar = idle_more c.args.chain.now.segments c.args.table.now.heads c.args.trees.now c.args.datime l.tree-index l.planned.chain.segments l.table.heads l.planned.steps.items l.invariant.sofar _ _ c.loop-tree-test.true c.tree-item.is
                (sym c.is_due.ensures ∙ w.if-is_due.false);
            fresh = l.invariant.fresh;
          })
    ]

pub returns-clause-planned : goal.returns-clause-planned
returns-clause-planned c =
    let l = c.loop-tree in
    all_planned c.args.chain.now.segments c.args.table.now.heads c.args.trees.now c.args.datime l.tree-index l.planned.chain.segments l.table.heads l.planned.steps.items l.invariant.sofar (omega (arith, c.loop-tree-test.false))

pub returns-clause-fresh : goal.returns-clause-fresh
returns-clause-fresh c = c.loop-tree.invariant.fresh

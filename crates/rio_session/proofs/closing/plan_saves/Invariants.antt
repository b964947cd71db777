use Rattle.std.proofs.Common.{◌≡◌, drop, map, false}
use Rattle.rio_session.specs.{ClosingPlans.{CanPlanSaves}, Fills.{bare_tree}, SessionState.{SessionState}}
use Rattle.rio_session.proofs.ClosingPlans.{ArePlannedSoFar}
use Rattle.rio_session.proofs.closing.plan_saves.Given as goal

abbrev pub invariant-loop-tree : goal.invariant-loop-tree
invariant-loop-tree l = record {
  sofar : (s : SessionState) → CanPlanSaves s l.chain.segments l.fn.table.heads l.trees l.datime → ArePlannedSoFar s (map bare_tree (drop l.tree-index l.trees)) l.planned.chain.segments l.table.heads l.planned.steps.items;
  fresh : l.planned.chain.spent ≡ false;
}

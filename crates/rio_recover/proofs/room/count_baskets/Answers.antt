use Rattle.rio_recover.proofs.BasketCounts.{all_branches, branch_counted}
use Rattle.rio_recover.proofs.room.count_baskets.Goals as goal

pub loop-branch-preserved : goal.loop-branch-preserved
loop-branch-preserved c =
    branch_counted c.as_slice-branch-items.result.now c.loop-branch.branch-index c.branch-item.result c.loop-branch.count _ c.len.result c.loop-branch-test.true c.branch-item.is c.loop-branch.invariant c.len.ensures
    c.saturating_add-count.ensures

pub returns : goal.returns
returns c =
    all_branches c.args.head.now.branches c.as_slice-branch-items.result.now c.loop-branch.branch-index c.loop-branch.count c.as_slice-branch-items.ensures c.loop-branch-test.false c.loop-branch.invariant

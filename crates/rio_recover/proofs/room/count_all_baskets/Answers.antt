use Rattle.rio_recover.proofs.BasketCounts.{all_trees, tree_counted}
use Rattle.rio_recover.proofs.room.count_all_baskets.Goals as goal

pub loop-tree-preserved : goal.loop-tree-preserved
loop-tree-preserved c =
    tree_counted c.args.trees.now c.loop-tree.tree-index c.tree-item.result c.loop-tree.count _ c.count_baskets.result c.loop-tree-test.true c.tree-item.is c.loop-tree.invariant c.count_baskets.ensures
    c.saturating_add-count.ensures

pub returns : goal.returns
returns c = all_trees c.args.trees.now c.loop-tree.tree-index c.loop-tree.count c.loop-tree-test.false c.loop-tree.invariant

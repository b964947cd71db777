use Rattle.std.proofs.Common.{◌≡◌, ◌∙◌, ap, get_or, map, take}
use Rattle.rio_tree_table.specs.{Table.{TableRoom, tree_of, with_tree}}
use Rattle.rio_session.proofs.FillLists.{opened_tree}
use Rattle.rio_session.proofs.KeptMade.{kept_more, none_yet}
use Rattle.rio_session.proofs.made_file.kept_trees.Goals as goal

pub insert-requires-clause-unique : goal.insert-requires-clause-unique
insert-requires-clause-unique c =
    let whole : c.in_ok-kept_tree_of.field-0 ≡ opened_tree (get_or c.args.trees.now c.loop-tree.tree-index c.tree-item.result) = c.in_ok-kept_tree_of.ensures ∙ ap opened_tree c.tree-item.is in
    let trees : c.reserve_one.new.self.trees ≡ map opened_tree (take c.loop-tree.tree-index c.args.trees.now) = ap (λ (r : TableRoom). r.trees) c.in_ok-reserve_one.ensures.ok ∙ c.loop-tree.invariant in
    (λ i. tree_of (whole i).name (trees i)) ∙ none_yet c.args.trees.now c.loop-tree.tree-index c.tree-item.result c.requires c.loop-tree-test.true

pub loop-tree-preserved : goal.loop-tree-preserved
loop-tree-preserved c =
    let whole : c.in_ok-kept_tree_of.field-0 ≡ opened_tree (get_or c.args.trees.now c.loop-tree.tree-index c.tree-item.result) = c.in_ok-kept_tree_of.ensures ∙ ap opened_tree c.tree-item.is in
    let trees : c.reserve_one.new.self.trees ≡ map opened_tree (take c.loop-tree.tree-index c.args.trees.now) = ap (λ (r : TableRoom). r.trees) c.in_ok-reserve_one.ensures.ok ∙ c.loop-tree.invariant in
    ap (λ (r : TableRoom). r.trees) c.insert.ensures ∙ (λ i. with_tree (whole i) (trees i)) ∙ kept_more c.args.trees.now c.loop-tree.tree-index c.tree-item.result c.requires c.loop-tree-test.true

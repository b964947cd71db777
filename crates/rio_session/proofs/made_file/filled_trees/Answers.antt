use Rattle.std.proofs.Common.{◌≡◌, ◌∙◌, ap, get_or, map, sym, subst, take}
use Rattle.std.specs.List.{find}
use Rattle.rio_fill.specs.Heads.{CanBeFilled}
use Rattle.rio_recover.specs.declared.trees.TreeAt.{TreeAt}
use Rattle.rio_session.specs.Fills.{FilledRoom, filled_tree_of, is_tree_of, with_filled}
use Rattle.rio_session.proofs.FilledMade.{HasFewBaskets, filled_more, none_filled}
use Rattle.rio_session.proofs.made_file.filled_trees.Goals as goal

pub filled_tree_of-requires : goal.filled_tree_of-requires
filled_tree_of-requires c =
    let at = c.loop-tree.tree-index in
    record {
      fillable = subst (λ (t : TreeAt). CanBeFilled t.head) (sym c.tree-item.is) (c.requires.fillable at c.tree-item.result c.loop-tree-test.true);
      few = subst HasFewBaskets (sym c.tree-item.is) (c.requires.few at c.tree-item.result c.loop-tree-test.true);
    }

pub insert-requires-clause-unique : goal.insert-requires-clause-unique
insert-requires-clause-unique c =
    let whole : c.in_ok-filled_tree_of.field-0 ≡ filled_tree_of (get_or c.args.trees.now c.loop-tree.tree-index c.tree-item.result) = c.in_ok-filled_tree_of.ensures ∙ ap filled_tree_of c.tree-item.is in
    let trees : c.reserve_one.new.self.trees ≡ map filled_tree_of (take c.loop-tree.tree-index c.args.trees.now) = ap (λ (r : FilledRoom). r.trees) c.in_ok-reserve_one.ensures.ok ∙ c.loop-tree.invariant in
    (λ i. find (is_tree_of (whole i).name) (trees i)) ∙ none_filled c.args.trees.now c.loop-tree.tree-index c.tree-item.result c.requires.order c.loop-tree-test.true

pub loop-tree-preserved : goal.loop-tree-preserved
loop-tree-preserved c =
    let whole : c.in_ok-filled_tree_of.field-0 ≡ filled_tree_of (get_or c.args.trees.now c.loop-tree.tree-index c.tree-item.result) = c.in_ok-filled_tree_of.ensures ∙ ap filled_tree_of c.tree-item.is in
    let trees : c.reserve_one.new.self.trees ≡ map filled_tree_of (take c.loop-tree.tree-index c.args.trees.now) = ap (λ (r : FilledRoom). r.trees) c.in_ok-reserve_one.ensures.ok ∙ c.loop-tree.invariant in
    ap (λ (r : FilledRoom). r.trees) c.insert.ensures ∙ (λ i. with_filled (whole i) (trees i)) ∙ filled_more c.args.trees.now c.loop-tree.tree-index c.tree-item.result c.requires.order c.loop-tree-test.true

use Rattle.std.proofs.{Common.{◌≡◌, ◌∙◌, ap, subst, sym, rules}, lemmas.List.Sorted.{IsPartitionPoint-from_clause}}
use Rattle.std.specs.List.{prefix_len}
use Rattle.rio_recover.specs.TreeTable.{AreInOrder, is_tree_before}
use Rattle.rio_recover.proofs.TreeOrder.{partitioned, point_is}
use Rattle.rio_recover.proofs.trees.Trees.count_before.Goals as goal

pub returns : goal.returns
returns c =
    let items = c.deref.result.now in
    let test = is_tree_before c.args.name.now in
    let same : items ≡ c.args.self.now = c.deref.ensures.value ∙ c.self.view_is in
    let are : AreInOrder items = subst AreInOrder (sym c.deref.ensures.value) c.self.invariant in
    let point = IsPartitionPoint-from_clause test items c.partition_point.result c.partition_point.ensures.partitioned (partitioned c.args.name.now items are) (λ a r f' k. search rules) in
    point_is test items c.partition_point.result c.partition_point.ensures.bound point ∙ ap (prefix_len test) same

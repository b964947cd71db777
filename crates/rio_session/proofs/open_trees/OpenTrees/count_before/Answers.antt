use Rattle.std.proofs.{Common.{◌≡◌, ◌∙◌, ap, subst, sym, rules}, lemmas.List.Sorted.{IsPartitionPoint-from_clause}}
use Rattle.std.specs.List.{prefix_len}
use Rattle.rio_session.specs.{Fills.{AreNamesOrdered, FilledRoom}, Noted.{is_before_name}}
use Rattle.rio_session.proofs.FilledTable.{partitioned, point_is}
use Rattle.rio_session.proofs.open_trees.OpenTrees.count_before.Goals as goal

pub returns : goal.returns
returns c =
    let items = c.deref.result.now in
    let test = is_before_name c.args.name.now in
    let same : items ≡ c.args.self.now.trees = c.deref.ensures.value ∙ ap (λ (t : FilledRoom). t.trees) c.self.view_is in
    let are : AreNamesOrdered items = subst AreNamesOrdered (sym c.deref.ensures.value) c.self.invariant.ordered in
    let parted = partitioned c.args.name.now items are in
    let point = IsPartitionPoint-from_clause test items c.partition_point.result c.partition_point.ensures.partitioned parted (λ a r f' k. search rules) in
    point_is test items c.partition_point.result c.partition_point.ensures.bound point ∙ ap (prefix_len test) same

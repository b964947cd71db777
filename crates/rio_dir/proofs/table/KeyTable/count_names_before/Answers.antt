use Rattle.std.proofs.{Common.{◌≡◌, ◌∙◌, ap, subst, sym, rules}, lemmas.List.Sorted.{IsPartitionPoint-from_clause}}
use Rattle.std.specs.List.{prefix_len}
use Rattle.rio_dir.specs.Table.{AreOrdered, TableRoom, is_name_before, is_of_name}
use Rattle.rio_dir.proofs.TableLists.{by_name, partitioned, point_is}
use Rattle.rio_dir.proofs.table.KeyTable.count_names_before.Goals as goal

pub returns : goal.returns
returns c =
    let items = c.deref.result.now in
    let test = is_name_before c.args.name.now in
    let same : items ≡ c.args.self.now.heads = c.deref.ensures.value ∙ ap (λ (t : TableRoom). t.heads) c.self.view_is in
    let are : AreOrdered items = subst AreOrdered (sym c.deref.ensures.value) c.self.invariant.ordered in
    let parted = partitioned test (is_of_name c.args.name.now) (by_name c.args.name.now) items are in
    let point = IsPartitionPoint-from_clause test items c.partition_point.result c.partition_point.ensures.partitioned parted (λ a r f' k. search rules) in
    point_is test items c.partition_point.result c.partition_point.ensures.bound point ∙ ap (prefix_len test) same

use Rattle.std.proofs.Common.{◌∙◌, ap}
use Rattle.rio_tree_table.specs.Table.{TableRoom}
use Rattle.rio_tree_table.proofs.TableLaws.{found_there}
use Rattle.rio_tree_table.proofs.table.TreeTable.find.Goals as goal

pub returns : goal.returns
returns c =
    let same = ap (λ (t : TableRoom). t.trees) c.self.view_is in
    c.named_at.ensures
    ∙ found_there c.args.name.now c.self.inside.trees.items c.args.self.now.trees _ c.count_before-at.result same c.deref.ensures.value c.self.invariant.ordered c.count_before-at.ensures

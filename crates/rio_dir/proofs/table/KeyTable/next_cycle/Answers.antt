use Rattle.std.proofs.Common.{◌∙◌, ap, arith}
use Rattle.std.specs.Option.{option_copied}
use Rattle.rio_dir.specs.Table.{TableRoom}
use Rattle.rio_dir.proofs.TableLists.{cycle_of, greatest_there}
use Rattle.rio_dir.proofs.table.KeyTable.next_cycle.Goals as goal

pub returns-in-Some : goal.returns-in-Some
returns-in-Some c =
    let same = ap (λ (t : TableRoom). t.heads) c.self.view_is in
    let most = greatest_there c.args.name.now c.self.inside.heads.items c.args.self.now.heads _ c.count_names_before.result _ same c.deref.ensures.value c.self.invariant.ordered c.count_names_before.ensures c.of_name.ensures in
    let is = most ∙ ap (λ o. cycle_of (option_copied o)) c.in-Some.is in
    omega (arith, is, c.cycle_after.ensures)

pub returns-in-None : goal.returns-in-None
returns-in-None c =
    let same = ap (λ (t : TableRoom). t.heads) c.self.view_is in
    let most = greatest_there c.args.name.now c.self.inside.heads.items c.args.self.now.heads _ c.count_names_before.result _ same c.deref.ensures.value c.self.invariant.ordered c.count_names_before.ensures c.of_name.ensures in
    let is = most ∙ ap (λ o. cycle_of (option_copied o)) c.in-None.is in
    omega (arith, is)

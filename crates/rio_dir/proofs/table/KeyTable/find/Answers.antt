use Rattle.std.proofs.Common.{◌∙◌, ℕ, Option, ap, sym}
use Rattle.rio_dir.specs.Table.{TableRoom, head_of, is_at_cycle, is_before, is_name_before, is_of_name}
use Rattle.rio_dir.proofs.TableLists.{by_cycle, by_name, found_there}
use Rattle.rio_dir.proofs.table.KeyTable.find.Goals as goal

pub returns-in-None : goal.returns-in-None
returns-in-None c =
    let name = c.args.name.now in
    let same = ap (λ (t : TableRoom). t.heads) c.self.view_is in
    c.of_name.ensures
    ∙ found_there (is_name_before name) (is_of_name name) (by_name name) c.self.inside.heads.items c.args.self.now.heads _ c.count_names_before.result same c.deref.ensures.value c.self.invariant.ordered c.count_names_before.ensures
    ∙ ap (λ (o : Option ℕ). head_of name o c.args.self.now.heads) (sym c.in-None.is)

pub returns-in-Some : goal.returns-in-Some
returns-in-Some c =
    let name = c.args.name.now in
    let cycle = c.in-Some.cycle in
    let same = ap (λ (t : TableRoom). t.heads) c.self.view_is in
    c.at_cycle.ensures
    ∙ found_there (is_before name cycle) (is_at_cycle name cycle) (by_cycle name cycle) c.self.inside.heads.items c.args.self.now.heads _ c.count_before.result same c.deref-in-Some.ensures.value c.self.invariant.ordered c.count_before.ensures
    ∙ ap (λ (o : Option ℕ). head_of name o c.args.self.now.heads) (sym c.in-Some.is)

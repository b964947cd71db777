use Rattle.std.proofs.Common.{◌∙◌, Bool, ◌&&◌, refl, sym, ap}
use Rattle.std.specs.{List.{find}, Option.{is_some}}
use Rattle.rio_dir.specs.Table.{is_of_name}
use Rattle.rio_recover.proofs.NameTables.{mixed_by}
use Rattle.rio_recover.proofs.names.NameIndex.is_mixed.Goals as goal
use Rattle.rio_registry.proofs.KnownLaws.{is_some-option_copied}

pub returns-then-is_some : goal.returns-then-is_some
returns-then-is_some c tops is =
    let object = c.is_some-then-is_some.result in
    ap (λ (b : Bool). b && object) (sym c.if-is_some.true)
    ∙ mixed_by tops c.args.self.now c.args.name.now c.is_some.result object is (c.is_some.ensures ∙ sym (is_some-option_copied c.find.result) ∙ ap is_some c.find.ensures)
    (c.is_some-then-is_some.ensures ∙ sym (is_some-option_copied c.find-then-is_some.result) ∙ ap is_some c.find-then-is_some.ensures)

pub returns-else-is_some : goal.returns-else-is_some
returns-else-is_some c tops is =
    let object = is_some (find (is_of_name c.args.name.now) c.args.self.now.objects.heads) in
    c.if-is_some.false
    ∙ ap (λ (b : Bool). b && object) (sym c.if-is_some.false)
    ∙ mixed_by tops c.args.self.now c.args.name.now c.is_some.result object is (c.is_some.ensures ∙ sym (is_some-option_copied c.find.result) ∙ ap is_some c.find.ensures) refl

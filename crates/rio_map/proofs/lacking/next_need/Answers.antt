use Rattle.std.proofs.{Common.{◌≡◌, ◌∙◌, Some, None, SFits, w32, rules, sym, ap, subst}, lemmas.Int.{to_z-of_z}}
use Rattle.rio_format.specs.Slots.{Field, Slot, fields_of}
use Rattle.rio_model.specs.Mapping.{zero_version}
use Rattle.rio_map.specs.Lacking.{SlotNeeds}
use Rattle.rio_map.proofs.WayLaws.{no_fields, no_version, part_needs}
use Rattle.rio_map.proofs.lacking.next_need.Goals as goal

pub returns-in_default : goal.returns-in_default
returns-in_default c = no_version c.args.classes.now c.args.class.now (sym c.zero_version.ensures ∙ c.in_default.is)

pub returns-in_default-fields_of : goal.returns-in_default-fields_of
returns-in_default-fields_of c =
    let fits : SFits w32 c.in-Some.version = search rules in
    let known : zero_version c.args.classes.now c.args.class.now ≡ Some c.in-Some.version = sym c.zero_version.ensures ∙ c.in-Some.is in
    let none : fields_of c.args.classes.now c.args.class.now c.in-Some.version ≡ None = sym (simp to_z-of_z at c.fields_of.ensures) ∙ c.in_default-fields_of.is in
    no_fields c.args.classes.now c.args.class.now c.in-Some.version known none

pub returns-in_default-slot_need : goal.returns-in_default-slot_need
returns-in_default-slot_need c =
    let fits : SFits w32 c.in-Some.version = search rules in
    let known : zero_version c.args.classes.now c.args.class.now ≡ Some c.in-Some.version = sym c.zero_version.ensures ∙ c.in-Some.is in
    let fields : fields_of c.args.classes.now c.args.class.now c.in-Some.version ≡ Some c.in-Some-fields_of.fields = sym (simp to_z-of_z at c.fields_of.ensures) ∙ c.in-Some-fields_of.is in
    let slot : c.field.inside.slot ≡ c.in-Some-get.field.slot = ap (λ (f : Field). f.slot) c.field.view_is in
    let needs : SlotNeeds c.in-Some-get.field.slot c.slot_need.result = subst (λ (s : Slot). SlotNeeds s c.slot_need.result) slot c.slot_need.ensures in
    part_needs c.args.classes.now c.args.class.now c.in-Some.version c.in-Some-fields_of.fields c.loop-k.k c.in-Some-get.field c.slot_need.result known fields (sym c.get.ensures ∙ c.in-Some-get.is) needs

use Rattle.std.proofs.Common.{◌+◌, ◌∙◌, Option, ap, drop, refl, sym, rules}
use Rattle.std.specs.{List.{flat_map}, Option.{option_or}}
use Rattle.rio_format.specs.{Accessors.{part_of}, declared.value.Value.{Value}, PartsWithBases.{member_in, parts_of_base}}
use Rattle.rio_format.proofs.MemberLaws.{bases-drop, member-Object, member_by_layer}
use Rattle.rio_format.proofs.member.+member.Goals as goal

pub base_member-returns-in-Some : goal.base_member-returns-in-Some
base_member-returns-in-Some t c =
    let rest = part_of c.args.name.now (flat_map parts_of_base (drop (c.loop-part.part-index + 1) c.args.parts.now)) in
    ap (λ (o : Option Value). option_or o rest) c.in-Some.ensures
    ∙ sym (bases-drop c.args.name.now c.args.parts.now c.loop-part.part-index c.part-item.result c.loop-part-test.true c.part-item.is)
    ∙ c.loop-part.invariant

pub base_member-loop-part-preserved : goal.base_member-loop-part-preserved
base_member-loop-part-preserved t c =
    let rest = part_of c.args.name.now (flat_map parts_of_base (drop (c.loop-part.part-index + 1) c.args.parts.now)) in
    ap (λ (o : Option Value). option_or o rest) c.in_default.ensures
    ∙ sym (bases-drop c.args.name.now c.args.parts.now c.loop-part.part-index c.part-item.result c.loop-part-test.true c.part-item.is)
    ∙ c.loop-part.invariant

pub member-returns-in-Some : goal.member-returns-in-Some
member-returns-in-Some t c =
    let whole = ap (member_in c.args.name.now) c.in-Object.is ∙ member-Object c.args.name.now _ _ _ in
    rw (whole, ← c.as_slice.ensures, ← c.in-Some.ensures) refl

pub member-returns-in-None : goal.member-returns-in-None
member-returns-in-None t c =
    let whole = ap (member_in c.args.name.now) c.in-Object.is ∙ member-Object c.args.name.now _ _ _ in
    rw (whole, ← c.as_slice.ensures, ← c.in-None.ensures, c.as_slice.ensures, ← c.as_slice-in-None.ensures) c.base_member.ensures

pub member-returns-in_default : goal.member-returns-in_default
member-returns-in_default t c = rw (member_by_layer c.args.name.now c.args.value.now) (search rules)

use Rattle.std.proofs.{Common.{rules, w32, SFits, drop, map, Some, None, Ok, Err}, lemmas.Int.{to_z-of_z}}
use Rattle.std.specs.Option.{option_copied}
use Rattle.rio_model.specs.Mapping.{described_bases}
use Rattle.rio_map.specs.Versions.{mapping_of_part}
use Rattle.rio_map.proofs.{MappingLaws.{base_by_found, mapped-Object, member_by_found}, VersionLaws.{after_bases_mapped, object_by_bases}}
use Rattle.rio_map.proofs.version.+mapped.Goals as goal

pub mapped-returns-in-Object : goal.mapped-returns-in-Object
mapped-returns-in-Object t c =
    let fits : SFits w32 c.in-Object.version = search rules in
    rw (c.in-Object.is, mapped-Object) (simp (to_z-of_z, c.as_slice-in-Object.ensures, c.as_slice-in-Object-2.ensures) at c.object_as.ensures)

pub base_mapped-returns-in-Ok-Some : goal.base_mapped-returns-in-Ok-Some
base_mapped-returns-in-Ok-Some t c =
    base_by_found c.args.classes.now c.args.asked.now c.args.base.now c.args.bases.now c.args.parts.now (Ok (Some c.in-Ok-Some.value)) (rw c.in-Ok-Some.field-0-is at c.in-Ok-Some.ensures)

pub base_mapped-returns-in-Ok-None : goal.base_mapped-returns-in-Ok-None
base_mapped-returns-in-Ok-None t c =
    rw (base_by_found c.args.classes.now c.args.asked.now c.args.base.now c.args.bases.now c.args.parts.now (Ok None) (rw c.in-Ok-None.field-0-is at c.in-Ok-None.ensures)) c.base_zero.ensures

pub base_mapped-returns-in-Err : goal.base_mapped-returns-in-Err
base_mapped-returns-in-Err t c =
    λ lacks. base_by_found c.args.classes.now c.args.asked.now c.args.base.now c.args.bases.now c.args.parts.now (Err c.in-Err.fault) (c.in-Err.ensures lacks)

pub member_mapped-returns-in-Ok-Some : goal.member_mapped-returns-in-Ok-Some
member_mapped-returns-in-Ok-Some t c =
    member_by_found c.args.classes.now c.args.asked.now c.args.member.now c.args.members.now (drop c.args.bases c.args.parts.now) (Ok (Some c.in-Ok-Some.value)) (rw c.in-Ok-Some.field-0-is at c.in-Ok-Some.ensures)

pub member_mapped-returns-in-Ok-None : goal.member_mapped-returns-in-Ok-None
member_mapped-returns-in-Ok-None t c =
    rw (member_by_found c.args.classes.now c.args.asked.now c.args.member.now c.args.members.now (drop c.args.bases c.args.parts.now) (Ok None) (rw c.in-Ok-None.field-0-is at c.in-Ok-None.ensures)) c.member_zero.ensures

pub member_mapped-returns-in-Err : goal.member_mapped-returns-in-Err
member_mapped-returns-in-Err t c =
    λ lacks. member_by_found c.args.classes.now c.args.asked.now c.args.member.now c.args.members.now (drop c.args.bases c.args.parts.now) (Err c.in-Err.fault) (c.in-Err.ensures lacks)

pub object_mapped-returns-in-Ok : goal.object_mapped-returns-in-Ok
object_mapped-returns-in-Ok t c =
    let within = map (mapping_of_part c.args.classes.now c.args.asked.now) c.args.parts.now in
    let own = after_bases_mapped c.args.classes.now c.args.asked.now (described_bases (option_copied c.args.old)) c.args.parts.now in
    rw (object_by_bases c.args.classes.now (option_copied c.args.old) c.args.asked.now within c.in-Ok.front (rw c.described_bases-bases.ensures at c.in-Ok.ensures), own)
    (rw (c.described_members-members.ensures, c.base_parts-skipped.ensures, c.described_bases-bases.ensures) at c.members_after.ensures)

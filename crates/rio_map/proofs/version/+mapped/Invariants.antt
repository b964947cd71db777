use Rattle.std.proofs.Common.{◌≡◌, map, drop}
use Rattle.std.specs.Prelude.{find}
use Rattle.std.specs.Str.{bytes_eq}
use Rattle.rio_model.specs.Mapping.{each_mapped, items_mapped}
use Rattle.rio_map.specs.Versions.{bases_as, behind, is_base_part, mapping_in, mapping_of_part, members_as}
use Rattle.rio_map.proofs.version.+mapped.Given as goal

abbrev pub invariant-items_mapped-loop-item : goal.invariant-items_mapped-loop-item
invariant-items_mapped-loop-item l =
    behind l.done (items_mapped (map (mapping_in l.classes l.asked) (drop l.item-index l.items))) ≡ items_mapped (map (mapping_in l.classes l.asked) l.items)

abbrev pub invariant-parts_mapped-loop-part : goal.invariant-parts_mapped-loop-part
invariant-parts_mapped-loop-part l =
    behind l.done (each_mapped (λ p. p.name) (λ p. p.value.mapped) (map (mapping_of_part l.classes l.asked) (drop l.part-index l.parts))) ≡ each_mapped (λ p. p.name) (λ p. p.value.mapped) (map (mapping_of_part l.classes l.asked) l.parts)

abbrev pub invariant-bases_mapped-loop-base : goal.invariant-bases_mapped-loop-base
invariant-bases_mapped-loop-base l =
    behind l.done (bases_as l.classes l.bases (record l.asked { bases = drop l.base-index l.asked.bases }) (map (mapping_of_part l.classes l.asked) l.parts)) ≡ bases_as l.classes l.bases l.asked (map (mapping_of_part l.classes l.asked) l.parts)

abbrev pub invariant-members_after-loop-member : goal.invariant-members_after-loop-member
invariant-members_after-loop-member l =
    let within = map (mapping_of_part l.classes l.asked) (drop l.bases l.parts) in
    behind l.done (members_as l.classes l.members (record l.asked { members = drop l.member-index l.asked.members }) within) ≡ behind l.fn.front (members_as l.classes l.members l.asked within)

abbrev pub invariant-base_found-loop-part : goal.invariant-base_found-loop-part
invariant-base_found-loop-part l = find (is_base_part l.base.name) (drop l.part-index l.parts) ≡ find (is_base_part l.base.name) l.parts

abbrev pub invariant-part_found-loop-k : goal.invariant-part_found-loop-k
invariant-part_found-loop-k l = find (λ p. bytes_eq p.name l.member.name) (drop l.k l.parts) ≡ find (λ p. bytes_eq p.name l.member.name) (drop l.bases l.parts)

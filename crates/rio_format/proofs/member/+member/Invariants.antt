use Rattle.std.proofs.Common.{◌≡◌, drop}
use Rattle.std.specs.List.{flat_map}
use Rattle.rio_format.specs.{Accessors.{part_of}, PartsWithBases.{parts_of_base}}
use Rattle.rio_format.proofs.member.+member.Given as goal

abbrev pub invariant-base_member-loop-part : goal.invariant-base_member-loop-part
invariant-base_member-loop-part l = part_of l.name (flat_map parts_of_base (drop l.part-index l.parts)) ≡ part_of l.name (flat_map parts_of_base l.parts)

use Rattle.std.proofs.Common.{◌≡◌, drop}
use Rattle.rio_map.specs.Versions.{kind_in}
use Rattle.rio_map.proofs.version.kind_in.Given as goal

abbrev pub invariant-loop-member : goal.invariant-loop-member
invariant-loop-member l = kind_in (drop l.member-index l.members) l.name ≡ kind_in l.members l.name

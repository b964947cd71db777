use Rattle.std.proofs.Common.{◌≡◌, drop}
use Rattle.std.specs.List.{list_all}
use Rattle.rio_model.specs.Declaring.{knows_kind}
use Rattle.rio_registry.proofs.names.knows_members.Given as goal

abbrev pub invariant-loop-member : goal.invariant-loop-member
invariant-loop-member l = list_all (λ m. knows_kind l.classes l.class m.kind) (drop l.member-index l.members) ≡ list_all (λ m. knows_kind l.classes l.class m.kind) l.members

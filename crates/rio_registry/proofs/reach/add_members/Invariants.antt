use Rattle.std.proofs.Common.{take}
use Rattle.std.specs.List.{list_any}
use Rattle.rio_model.specs.Declaring.{is_inline}
use Rattle.rio_registry.specs.Reaching.{IsGrown}
use Rattle.rio_registry.proofs.reach.add_members.Given as goal

abbrev pub invariant-loop-member : goal.invariant-loop-member
invariant-loop-member l = IsGrown l.fn.names l.names (λ n. list_any (λ m. is_inline n m.kind) (take l.member-index l.members))

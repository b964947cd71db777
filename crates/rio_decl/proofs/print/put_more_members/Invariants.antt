use Rattle.std.proofs.Common.{◌≡◌, ◌++◌, codes, drop}
use Rattle.std.specs.List.{flat_map}
use Rattle.rio_model.specs.ClassText.{member_text}
use Rattle.rio_decl.proofs.print.put_more_members.Given as goal

abbrev pub invariant-loop-member : goal.invariant-loop-member
invariant-loop-member l = l.text.bytes ++ flat_map (λ m. codes ", " ++ member_text m) (drop l.member-index l.members) ≡ l.fn.text.bytes ++ flat_map (λ m. codes ", " ++ member_text m) l.members

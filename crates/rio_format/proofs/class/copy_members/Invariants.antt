use Rattle.std.proofs.Common.{◌≡◌, take}
use Rattle.rio_format.proofs.class.copy_members.Given as goal

abbrev pub invariant-loop-member : goal.invariant-loop-member
invariant-loop-member l = l.copies ≡ take l.member-index l.members

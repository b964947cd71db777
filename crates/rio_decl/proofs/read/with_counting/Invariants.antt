use Rattle.std.proofs.Common.{◌≡◌, ◌++◌, drop, map}
use Rattle.rio_model.specs.ClassGrammar.{counting}
use Rattle.rio_decl.proofs.read.with_counting.Given as goal

abbrev pub invariant-loop-member : goal.invariant-loop-member
invariant-loop-member l = l.counting ++ map (counting l.members) (drop l.member-index l.members) ≡ map (counting l.members) l.members

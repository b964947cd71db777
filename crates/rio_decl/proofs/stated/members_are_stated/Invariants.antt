use Rattle.std.proofs.Common.{◌≡◌, ◌++◌, List, [], drop}
use Rattle.rio_format.specs.declared.class.Member.{Member}
use Rattle.rio_model.specs.Stated.{are_stated_members}
use Rattle.rio_model.proofs.ReadClasses.{Known}
use Rattle.rio_decl.specs.Known.{KnowsPassed}
use Rattle.rio_decl.proofs.stated.members_are_stated.Given as goal

abbrev pub invariant-loop-member : goal.invariant-loop-member
invariant-loop-member l =
    (before : List Member)
    × Known before
    × KnowsPassed before l.passed l.counters
    × (before ++ drop l.member-index l.members ≡ l.members)
    × (are_stated_members before (drop l.member-index l.members) ≡ are_stated_members [] l.members)

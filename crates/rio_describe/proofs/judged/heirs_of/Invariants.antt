use Rattle.std.proofs.Common.{◌≤◌, ◌+◌, ◌-◌, length}
use Rattle.rio_format.specs.Lists.{listed}
use Rattle.rio_describe.specs.Heirs.{AreHeirs}
use Rattle.rio_describe.proofs.HeirLaws.{AreKnown}
use Rattle.rio_describe.proofs.judged.heirs_of.Given as goal

abbrev pub invariant-loop-left : goal.invariant-loop-left
invariant-loop-left l = record {
  small : l.left ≤ length (listed l.lists) + 1;
  sound : AreHeirs (listed l.lists) l.heirs;
  known : AreKnown (listed l.lists) l.heirs (length (listed l.lists) + 1 - l.left);
}

abbrev pub decreases-loop-left : goal.decreases-loop-left
decreases-loop-left l = l.left

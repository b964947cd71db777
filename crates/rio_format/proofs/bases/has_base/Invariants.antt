use Rattle.std.proofs.Common.{◌≡◌, ◌≤◌, length}
use Rattle.rio_format.specs.{Slots.{has_base}, Bases.{HaveVisitedBases, any_below}, Lists.{listed}}
use Rattle.rio_format.proofs.bases.has_base.Given as goal

abbrev pub invariant-loop-left : goal.invariant-loop-left
invariant-loop-left l = record {
  begin : l.begin ≤ length l.visits;
  closed : HaveVisitedBases (listed l.classes) l.target l.visits l.begin;
  same : any_below (listed l.classes) l.target l.left l.visits ≡ has_base l.levels (listed l.classes) l.target l.class l.version;
}

abbrev pub decreases-loop-left : goal.decreases-loop-left
decreases-loop-left l = l.left

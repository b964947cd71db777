use Rattle.std.proofs.Common.{◌≡◌, ◌++◌, ◌≤◌, drop}
use Rattle.rio_chain.specs.Placing.{end_after, places_of}
use Rattle.rio_chain.proofs.plan.places_within.Given as goal

abbrev pub invariant-loop-n : goal.invariant-loop-n
invariant-loop-n l = record {
  places : l.places ++ places_of (drop l.n-index l.lengths) (record { gaps = l.gaps.gaps; end = l.end }) ≡ places_of l.lengths (record { gaps = l.fn.gaps.gaps; end = l.fn.end });
  ends : end_after (drop l.n-index l.lengths) (record { gaps = l.gaps.gaps; end = l.end }) ≡ end_after l.lengths (record { gaps = l.fn.gaps.gaps; end = l.fn.end });
  low : l.end ≤ l.limit;
}

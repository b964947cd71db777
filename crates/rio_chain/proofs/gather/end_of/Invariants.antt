use Rattle.std.proofs.Common.{◌≡◌, drop}
use Rattle.rio_chain.specs.Adjoining.{segments_end}
use Rattle.rio_chain.proofs.gather.end_of.Given as goal

abbrev pub invariant-loop-segment : goal.invariant-loop-segment
invariant-loop-segment l = segments_end l.end (drop l.segment-index l.segments) ≡ segments_end 100 l.segments

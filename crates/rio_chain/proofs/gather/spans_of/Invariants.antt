use Rattle.std.proofs.Common.{◌≡◌, take}
use Rattle.rio_chain.specs.Merging.{spans_in}
use Rattle.rio_chain.proofs.gather.spans_of.Given as goal

abbrev pub invariant-loop-segment : goal.invariant-loop-segment
invariant-loop-segment l = l.spans.items ≡ spans_in (take l.segment-index l.segments)

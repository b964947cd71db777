use Rattle.std.proofs.Common.{◌≡◌, take}
use Rattle.rio_chain.specs.Placing.{gaps_in}
use Rattle.rio_chain.proofs.gather.gaps_of.Given as goal

abbrev pub invariant-loop-segment : goal.invariant-loop-segment
invariant-loop-segment l = l.gaps.gaps ≡ gaps_in (take l.segment-index l.segments)

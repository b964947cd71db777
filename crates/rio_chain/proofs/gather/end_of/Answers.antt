use Rattle.std.proofs.Common.{arith}
use Rattle.rio_chain.specs.declared.segment.Segment.TheVariants.{Record}
use Rattle.rio_chain.proofs.Gathered.{end_next}
use Rattle.rio_chain.proofs.gather.end_of.Goals as goal

pub overflow_add-end : goal.overflow_add-end
overflow_add-end c =
    let next = end_next c.loop-segment.segment-index c.loop-segment.end c.args.segments.now (Record 0 0) c.loop-segment-test.true in
    omega (arith, next, c.length-end.ensures, c.loop-segment.invariant, c.requires)

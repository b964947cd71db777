use Rattle.rio_map.proofs.lacking.lacks_zero.Goals as goal

pub loop-preserved : goal.loop-preserved
loop-preserved c = c.in_ok-lacks.ensures.goes c.args.class.now c.loop.invariant

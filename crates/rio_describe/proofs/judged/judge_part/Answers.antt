use Rattle.std.proofs.{Common.{arith}, lemmas.Int.{to_z-of_z}}
use Rattle.rio_format.specs.Lists.{listed}
use Rattle.rio_describe.proofs.HeirLaws.{judged_more}
use Rattle.rio_describe.proofs.judged.judge_part.Goals as goal

pub loop-class-preserved : goal.loop-class-preserved
loop-class-preserved c =
    judged_more (listed c.args.lists.now) c.args.part.now c.loop-class.class-index c.class-item.result c.as_slice.result.now _ c.args.heirs.now c.loop-class.heirs c.judge.new.heirs
    c.loop-class.invariant (omega arith) c.class-item.is c.as_slice.ensures (grind (arith, to_z-of_z)) c.in_ok-judge.ensures

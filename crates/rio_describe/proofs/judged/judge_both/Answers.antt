use Rattle.std.proofs.lemmas.Result.{on_ok_weaker}
use Rattle.rio_format.specs.Lists.{listed}
use Rattle.rio_describe.proofs.HeirLaws.{judged_both}
use Rattle.rio_describe.proofs.judged.judge_both.Goals as goal

pub returns : goal.returns
returns c =
    let one = rw c.as_slice.ensures at c.in_ok-judge_part.ensures in
    let two = rw c.as_slice-2.ensures at c.judge_part-2.ensures in
    on_ok_weaker c.judge_part-2.result (judged_both (listed c.args.lists.now) c.args.first.now c.args.second.now c.args.heirs.now c.judge_part.new.heirs c.judge_part-2.new.heirs one) two

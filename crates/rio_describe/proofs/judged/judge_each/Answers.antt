use Rattle.std.proofs.{Common.{map}, lemmas.Result.{on_ok_weaker}}
use Rattle.rio_format.specs.Lists.{listed}
use Rattle.rio_describe.specs.Heirs.{built_in_bases, class_base}
use Rattle.rio_describe.proofs.HeirLaws.{judged_then}
use Rattle.rio_describe.proofs.judged.judge_each.Goals as goal

pub returns : goal.returns
returns c =
    let classes = listed c.args.lists.now in
    on_ok_weaker c.judge_described.result (judged_then classes built_in_bases (map class_base classes) c.args.heirs.now c.judge_built_in.new.heirs c.judge_described.new.heirs c.in_ok-judge_built_in.ensures) c.judge_described.ensures

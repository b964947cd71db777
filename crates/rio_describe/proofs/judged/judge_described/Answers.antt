use Rattle.std.proofs.{Common.{◌++◌, List, arith, map, ap, subst, sym}, lemmas.Int.{to_z-of_z}, lemmas.Result.{on_ok_weaker}}
use Rattle.std.specs.Prelude.{OnOk}
use Rattle.rio_format.specs.{declared.class.ClassDef.{ClassDef}, Lists.{listed}}
use Rattle.rio_describe.specs.Heirs.{Judged, class_base}
use Rattle.rio_describe.proofs.HeirLaws.{judged_last}
use Rattle.rio_describe.proofs.judged.judge_described.Goals as goal

pub returns-in_ok-judge_both-in-With : goal.returns-in_ok-judge_both-in-With
returns-in_ok-judge_both-in-With c =
    let classes = listed c.args.lists.now in
    let both = c.in-With.first.now ++ c.in-With.second.now in
    let done = on_ok_weaker c.judge.result (judged_last classes both c.in-With.class.now c.as_slice-in-With.result.now _ c.args.heirs.now c.judge_both-in-With.new.heirs c.judge.new.heirs c.as_slice-in-With.ensures (grind (arith, to_z-of_z)) c.in_ok-judge_both-in-With.ensures) c.judge.ensures in
    subst (λ (cs : List ClassDef). OnOk c.judge.result (Judged classes (map class_base cs) c.args.heirs.now c.judge.new.heirs)) (sym (ap listed c.in-With.is)) done

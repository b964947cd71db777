use Rattle.std.proofs.{Common.{[], ◌∷◌}, lemmas.Result.{on_ok_weaker}}
use Rattle.rio_format.specs.{declared.class.Base.{Base}, Lists.{listed}, declared.built_in.BuiltIn.TheVariants.{Named, ObjString, Listed, Arrayed}}
use Rattle.rio_describe.specs.Heirs.{built_in_base}
use Rattle.rio_describe.proofs.HeirLaws.{judged_then}
use Rattle.rio_describe.proofs.judged.judge_built_in.Goals as goal

pub returns : goal.returns
returns c =
    let classes = listed c.args.lists.now in
    let named : Base = built_in_base Named in
    let string : Base = built_in_base ObjString in
    let list : Base = built_in_base Listed in
    let array : Base = built_in_base Arrayed in
    let none = c.args.heirs.now in
    let two = judged_then classes (named ∷ []) (string ∷ []) none c.judge_own.new.heirs c.judge_own-2.new.heirs c.in_ok-judge_own.ensures c.in_ok-judge_own-2.ensures in
    let three = judged_then classes (named ∷ string ∷ []) (list ∷ []) none c.judge_own-2.new.heirs c.judge_own-3.new.heirs two c.in_ok-judge_own-3.ensures in
    on_ok_weaker c.judge_own-4.result (judged_then classes (named ∷ string ∷ list ∷ []) (array ∷ []) none c.judge_own-3.new.heirs c.judge_own-4.new.heirs three) c.judge_own-4.ensures

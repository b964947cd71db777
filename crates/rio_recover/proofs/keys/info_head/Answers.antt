use Rattle.std.proofs.{Common.{◌≡◌, ◌∙◌, List, [], drop, sym, ap, arith}, lemmas.List.{drop_all}}
use Rattle.std.specs.Option.{option_copied}
use Rattle.rio_key.specs.declared.head.KeyHead.{KeyHead}
use Rattle.rio_recover.proofs.Keyed.{info_head_keyed, info_head_of, latest, latest_none}
use Rattle.rio_recover.proofs.keys.info_head.Goals as goal

pub returns : goal.returns
returns c =
    let o = option_copied c.loop-head.info in
    let none : drop c.loop-head.head-index c.args.heads.now ≡ [] = drop_all c.loop-head.head-index c.args.heads.now (omega arith) in
    sym (latest_none o) ∙ ap (λ (hs : List KeyHead). latest o (info_head_of hs)) (sym none) ∙ c.loop-head.invariant ∙ sym (info_head_keyed c.args.heads.now)

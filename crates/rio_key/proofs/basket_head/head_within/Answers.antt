use Rattle.std.proofs.Common.{Err, sym, ap, ◌∙◌}
use Rattle.rio_num.specs.{At.{At}, Plain.{value_of}}
use Rattle.rio_key.specs.{BasketHead.{basket_head_at}, declared.fault.KeyFault.{KeyFault}}
use Rattle.rio_key.proofs.BasketFrontLaws.{head_within, whole}
use Rattle.rio_key.proofs.basket_head.head_within.Goals as goal

pub returns-in-Ok : goal.returns-in-Ok
returns-in-Ok c =
    let given = c.in-Ok.ensures ∙ ap (λ (s : At). value_of (basket_head_at s)) c.within.ensures in
    ap whole given ∙ sym (head_within c.args.n c.args.cursor.now)

pub returns-in-Err : goal.returns-in-Err
returns-in-Err c =
    let given = c.in-Err.ensures ∙ ap (λ (s : At). value_of (basket_head_at s)) c.within.ensures in
    ap (λ (fault : KeyFault). Err fault) c.from.ensures ∙ ap whole given ∙ sym (head_within c.args.n c.args.cursor.now)

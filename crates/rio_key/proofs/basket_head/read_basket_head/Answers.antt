use Rattle.std.proofs.Common.{ap, ◌∙◌, arith}
use Rattle.rio_num.specs.{At.{At}, Meanings.{Reading}, declared.cursor.Short.{Short as Shortage}, Plain.{value_of}}
use Rattle.rio_key.specs.{BasketHead.{basket_head_at}, declared.basket_head.BasketHead.{BasketHead}}
use Rattle.rio_key.proofs.BasketHeadLaws.{basket_head_again, is_head_broken, is_head_found}
use Rattle.rio_num.proofs.Plain.{standing}
use Rattle.rio_key.proofs.basket_head.read_basket_head.Goals as goal

pub returns-clause-found : goal.returns-clause-found
returns-clause-found c =
    let s = standing c.args.place c.args.bytes.now in
    is_head_found s c.take_basket_head.result (c.take_basket_head.ensures ∙ ap (λ (t : At). value_of (basket_head_at t)) c.new.ensures) (λ i. omega (arith, c.type_inv.bytes i))

pub returns-clause-broken : goal.returns-clause-broken
returns-clause-broken c =
    let s = standing c.args.place c.args.bytes.now in
    is_head_broken s c.take_basket_head.result (c.take_basket_head.ensures ∙ ap (λ (t : At). value_of (basket_head_at t)) c.new.ensures) (λ i. omega (arith, c.type_inv.bytes i))

pub returns-clause-only : goal.returns-clause-only
returns-clause-only c = λ head rest range e.
    let read = ap (λ bytes. basket_head_at (standing c.args.place bytes)) e ∙ basket_head_again head c.args.place rest range in
    c.take_basket_head.ensures ∙ ap (λ (t : At). value_of (basket_head_at t)) c.new.ensures ∙ ap (λ (r : Reading (Unit {0}) Shortage BasketHead). value_of r) read

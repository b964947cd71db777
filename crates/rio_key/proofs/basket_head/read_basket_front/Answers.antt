use Rattle.std.proofs.{Common.{◌≡◌, ℕ, Result, Ok, sym, ap, ◌∙◌, ◌+◌, ◌-◌, ◌≤◌, length, arith}, lemmas.Result.{err_from_is_err_and}}
use Rattle.rio_num.specs.At.{At}
use Rattle.rio_num.proofs.Plain.{standing}
use Rattle.rio_key.specs.{Key.{key_head_at}, declared.basket_head.BasketFront.{BasketFront}, declared.fault.KeyFault.{KeyFault}}
use Rattle.rio_key.proofs.{BasketFrontLaws.{front_told}, BasketHeadLaws.{place_within}}
use Rattle.rio_key.proofs.basket_head.read_basket_front.Goals as goal

pub returns-in_err-head-clause-exact : goal.returns-in_err-head-clause-exact
returns-in_err-head-clause-exact c =
    let s = standing c.args.base c.args.bytes.now in
    let read = ap (λ (s : At). key_head_at s) (sym c.new-cursor.ensures) ∙ c.in_ok-key.ensures in
    let left : c.saturating_sub-left.result ≡ c.in_ok-key.key.keylen - (c.take_key.new.cursor.place - c.args.base) = omega (arith, c.saturating_sub-left.ensures, c.saturating_sub.ensures, c.from.ensures, c.place-place.ensures.value) in
    let p = err_from_is_err_and c.from_residual-in_err-head.result c.from_residual-in_err-head.ensures.1 in
    rw (p.1, p.2) (λ ne. front_told s c.in_ok-key.key c.take_key.new.cursor c.saturating_sub-left.result _ (λ i. omega (arith, c.type_inv.bytes i)) read left c.in_err-head.ensures)

pub returns-clause-exact : goal.returns-clause-exact
returns-clause-exact c =
    let s = standing c.args.base c.args.bytes.now in
    let read = ap (λ (s : At). key_head_at s) (sym c.new-cursor.ensures) ∙ c.in_ok-key.ensures in
    let left : c.saturating_sub-left.result ≡ c.in_ok-key.key.keylen - (c.take_key.new.cursor.place - c.args.base) = omega (arith, c.saturating_sub-left.ensures, c.saturating_sub.ensures, c.from.ensures, c.place-place.ensures.value) in
    front_told s c.in_ok-key.key c.take_key.new.cursor c.saturating_sub-left.result (Ok c.in_ok-head.head) (λ i. omega (arith, c.type_inv.bytes i)) read left c.in_ok-head.ensures
    ∙ ap (λ (q : ℕ). let r : Result BasketFront KeyFault = Ok (record { key = c.in_ok-key.key; head = c.in_ok-head.head; place = q }) in r) (sym c.place-place.ensures.value)

pub returns-clause-within : goal.returns-clause-within
returns-clause-within c =
    let s' = c.take_key.new.cursor in
    let read = ap (λ (s : At). key_head_at s) (sym c.new-cursor.ensures) ∙ c.in_ok-key.ensures in
    let within : s'.place ≤ c.args.base + length c.args.bytes.now = place_within c.args.base c.args.bytes.now c.in_ok-key.key s' (λ i. omega (arith, c.type_inv.bytes i)) read in
    omega (arith, within, c.place-place.ensures.value)

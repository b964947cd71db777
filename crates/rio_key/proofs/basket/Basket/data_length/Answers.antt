use Rattle.std.proofs.Common.{◌≡◌, true, false, sym, ap, ◌∙◌, arith}
use Rattle.rio_key.specs.OpenBasket.{OpenBasket, entries_length}
use Rattle.rio_key.proofs.HeldLaws.{data_with_offsets, data_without_offsets, held_length}
use Rattle.rio_key.proofs.basket.Basket.data_length.Goals as goal

pub overflow_mul-result : goal.overflow_mul-result
overflow_mul-result c =
    let offsets : c.args.self.now.offsets ≡ true = sym (ap (λ (o : OpenBasket). o.offsets) c.self.view_is) ∙ c.if-self.true in
    omega (arith, data_with_offsets 0 c.args.self.now offsets, c.count.ensures)

pub overflow_add-result : goal.overflow_add-result
overflow_add-result c =
    let b = c.self.inside in
    let offsets : c.args.self.now.offsets ≡ true = sym (ap (λ (o : OpenBasket). o.offsets) c.self.view_is) ∙ c.if-self.true in
    let held : c.len.result ≡ entries_length c.args.self.now.entries = c.len.ensures ∙ sym (held_length b.ends.items b.bytes.bytes c.self.invariant.0) ∙ ap (λ (o : OpenBasket). entries_length o.entries) c.self.view_is in
    omega (arith, data_with_offsets 0 c.args.self.now offsets, c.count.ensures, held)

pub overflow_add-result-then-self : goal.overflow_add-result-then-self
overflow_add-result-then-self c =
    let b = c.self.inside in
    let offsets : c.args.self.now.offsets ≡ true = sym (ap (λ (o : OpenBasket). o.offsets) c.self.view_is) ∙ c.if-self.true in
    let held : c.len.result ≡ entries_length c.args.self.now.entries = c.len.ensures ∙ sym (held_length b.ends.items b.bytes.bytes c.self.invariant.0) ∙ ap (λ (o : OpenBasket). entries_length o.entries) c.self.view_is in
    omega (arith, data_with_offsets 0 c.args.self.now offsets, c.count.ensures, held)

pub returns-then-self : goal.returns-then-self
returns-then-self c k =
    let b = c.self.inside in
    let offsets : c.args.self.now.offsets ≡ true = sym (ap (λ (o : OpenBasket). o.offsets) c.self.view_is) ∙ c.if-self.true in
    let held : c.len.result ≡ entries_length c.args.self.now.entries = c.len.ensures ∙ sym (held_length b.ends.items b.bytes.bytes c.self.invariant.0) ∙ ap (λ (o : OpenBasket). entries_length o.entries) c.self.view_is in
    omega (arith, data_with_offsets k c.args.self.now offsets, c.count.ensures, held)

pub returns-else-self : goal.returns-else-self
returns-else-self c k =
    let b = c.self.inside in
    let offsets : c.args.self.now.offsets ≡ false = sym (ap (λ (o : OpenBasket). o.offsets) c.self.view_is) ∙ c.if-self.false in
    c.len-else-self.ensures
    ∙ sym (held_length b.ends.items b.bytes.bytes c.self.invariant.0)
    ∙ ap (λ (o : OpenBasket). entries_length o.entries) c.self.view_is
    ∙ sym (data_without_offsets k c.args.self.now offsets)

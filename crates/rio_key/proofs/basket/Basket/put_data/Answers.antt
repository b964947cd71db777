use Rattle.std.proofs.Common.{◌≡◌, true, false, sym, ap, ◌∙◌}
use Rattle.std.specs.List.{concat}
use Rattle.rio_num.specs.Room.{Room, with_more}
use Rattle.rio_key.specs.{OpenBasket.{OpenBasket}, BasketRecord.{offset_table}}
use Rattle.rio_key.proofs.{HeldLaws.{data_alone, data_parts, held_bytes}, PutLaws.{with_more-with_more}}
use Rattle.rio_key.proofs.basket.Basket.put_data.Goals as goal

pub returns-in_ok-put_table : goal.returns-in_ok-put_table
returns-in_ok-put_table c =
    let b = c.self.inside in
    let old = c.args.into.now in
    let now = c.args.self.now in
    let table = offset_table c.args.keylen now.entries in
    let joined : c.as_slice.result.now ≡ concat now.entries = c.as_slice.ensures ∙ sym (held_bytes b.ends.items b.bytes.bytes c.self.invariant.0) ∙ ap (λ (o : OpenBasket). concat o.entries) c.self.view_is in
    let offsets : now.offsets ≡ true = sym (ap (λ (o : OpenBasket). o.offsets) c.self.view_is) ∙ c.if-self.true in
    let first : c.put.new.self ≡ with_more old (concat now.entries) = c.in_ok-put.ensures ∙ ap (with_more old) joined in
    c.in_ok-put_table.ensures
    ∙ ap (λ (r : Room). with_more r table) first
    ∙ with_more-with_more old (concat now.entries) table
    ∙ ap (with_more old) (sym (data_parts c.args.keylen now offsets))

pub returns-else-self : goal.returns-else-self
returns-else-self c =
    let b = c.self.inside in
    let old = c.args.into.now in
    let now = c.args.self.now in
    let joined : c.as_slice.result.now ≡ concat now.entries = c.as_slice.ensures ∙ sym (held_bytes b.ends.items b.bytes.bytes c.self.invariant.0) ∙ ap (λ (o : OpenBasket). concat o.entries) c.self.view_is in
    let offsets : now.offsets ≡ false = sym (ap (λ (o : OpenBasket). o.offsets) c.self.view_is) ∙ c.if-self.false in
    c.in_ok-put.ensures ∙ ap (with_more old) (joined ∙ sym (data_alone c.args.keylen now offsets))

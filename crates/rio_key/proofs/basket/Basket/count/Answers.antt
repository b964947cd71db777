use Rattle.std.proofs.Common.{length, sym, ap, ◌∙◌}
use Rattle.rio_key.specs.OpenBasket.{OpenBasket}
use Rattle.rio_key.proofs.OpenLaws.{length-cut}
use Rattle.rio_key.proofs.basket.Basket.count.Goals as goal

pub returns : goal.returns
returns c =
    let b = c.self.inside in
    ap length c.as_slice.ensures.value ∙ sym (length-cut 0 b.ends.items b.bytes.bytes) ∙ ap (λ (o : OpenBasket). length o.entries) c.self.view_is

use Rattle.std.proofs.Common.{sym, ap, ◌∙◌}
use Rattle.rio_key.specs.OpenBasket.{OpenBasket, entries_length}
use Rattle.rio_key.proofs.HeldLaws.{held_length}
use Rattle.rio_key.proofs.basket.Basket.entries_length.Goals as goal

pub returns : goal.returns
returns c =
    let b = c.self.inside in
    c.len.ensures ∙ sym (held_length b.ends.items b.bytes.bytes c.self.invariant.0) ∙ ap (λ (o : OpenBasket). entries_length o.entries) c.self.view_is

use Rattle.std.proofs.{Common.{length, sym, ap, ◌∙◌}, lemmas.List.FromFn.{length-map-range_with_len}}
use Rattle.rio_key.specs.BasketEntries.{laid_entry}
use Rattle.rio_key.proofs.stored_basket.StoredBasket.count.Goals as goal

pub returns : goal.returns
returns c =
    let b = c.self.inside in
    sym (length-map-range_with_len (laid_entry b.offsets b.layout b.bytes.items) 0 b.layout.count) ∙ ap length c.self.view_is

use Rattle.std.proofs.Common.{◌≡◌, length, sym, ap, ◌∙◌, arith}
use Rattle.std.specs.List.{concat}
use Rattle.rio_key.specs.OpenBasket.{OpenBasket}
use Rattle.rio_key.proofs.OpenLaws.{cut_length}
use Rattle.rio_key.proofs.basket.Basket.takes.Goals as goal

pub returns : goal.returns
returns c =
    let b = c.self.inside in
    let entries = c.args.self.now.entries in
    let count : c.count.result ≡ length entries = c.count.ensures in
    let joined : length (concat entries) ≡ length b.bytes.bytes = sym (ap (λ (o : OpenBasket). length (concat o.entries)) c.self.view_is) ∙ (omega (arith, cut_length 0 b.ends.items b.bytes.bytes c.self.invariant.0)) in
    let bytes : c.len.result ≡ length (concat entries) = c.len.ensures ∙ sym joined in
    c.take_one_more.ensures ∙ (cc)

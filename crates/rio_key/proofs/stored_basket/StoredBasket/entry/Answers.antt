use Rattle.std.proofs.Common.{ℕ, List, Option, Some, slice_get, sym, ap, ◌∙◌, arith}
use Rattle.rio_key.specs.BasketEntries.{laid_entry}
use Rattle.rio_key.proofs.PlaceLaws.{item_there, no_item}
use Rattle.rio_key.proofs.stored_basket.StoredBasket.entry.Goals as goal

pub returns-then-k-self-clause-there : goal.returns-then-k-self-clause-there
returns-then-k-self-clause-there c =
    let b = c.self.inside in
    let f = laid_entry b.offsets b.layout b.bytes.items in
    let some = λ (bytes : List ℕ). let o : Option (List ℕ) = Some bytes in o in
    ap some (c.laid_entry.ensures.same ∙ ap (λ (bytes : List ℕ). laid_entry b.offsets b.layout bytes c.args.k) c.as_slice.ensures.value)
    ∙ sym (item_there f b.layout.count c.args.k c.if-k-self.true)
    ∙ ap (λ (entries : List (List ℕ)). slice_get entries c.args.k) c.self.view_is

pub returns-else-k-self-clause-there : goal.returns-else-k-self-clause-there
returns-else-k-self-clause-there c =
    let b = c.self.inside in
    let f = laid_entry b.offsets b.layout b.bytes.items in
    sym (no_item f b.layout.count c.args.k (omega arith)) ∙ ap (λ (entries : List (List ℕ)). slice_get entries c.args.k) c.self.view_is

use Rattle.std.proofs.Common.{◌≡◌, ℕ, List, Bool, length, Result, Ok, Err, IfOk, sym, ap, ◌∙◌}
use Rattle.rio_key.specs.{declared.basket_fault.BasketFault.{BasketFault}, declared.basket_layout.Layout.{Layout}, LaidBasket.{IsLayoutWithin}, StoredLayout.{layout_by, layout_in}}
use Rattle.rio_key.proofs.LaidLaws.{layout_within}
use Rattle.rio_key.proofs.basket_layout.read_layout.Goals as goal

within : (offsets : Bool) (bytes : List ℕ) (r : Result Layout BasketFault) → layout_in offsets bytes ≡ r → IfOk r (λ layout. IsLayoutWithin layout bytes)
within offsets bytes (Ok layout) e = layout_within offsets bytes layout e
within offsets bytes (Err fault) e = tt

pub returns-in-Ok-clause-within : goal.returns-in-Ok-clause-within
returns-in-Ok-clause-within c =
    let offsets = c.args.offsets in
    let bytes = c.args.bytes.now in
    let read : layout_in offsets bytes ≡ c.layout_by.result = ap (layout_by offsets (length bytes)) c.in-Ok.ensures.exact ∙ sym c.layout_by.ensures in
    within offsets bytes c.layout_by.result read

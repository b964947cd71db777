use Rattle.std.proofs.{Common.{◌≡◌, ℕ, List, map, ◌∷◌, [], ◌++◌, sym, ap, ◌∙◌, arith}, lemmas.List.FromFn.{map-range_with_len_more}}
use Rattle.std.specs.List.{range_with_len}
use Rattle.rio_num.specs.Room.{Room}
use Rattle.rio_key.specs.BasketEntries.{laid_entry}
use Rattle.rio_key.proofs.basket_entries.read_basket.Goals as goal

pub loop-k-preserved : goal.loop-k-preserved
loop-k-preserved c =
    let k = c.loop-k.k in
    let f = laid_entry c.args.offsets c.in_ok-layout.layout c.args.bytes.now in
    let one : c.in_ok-from_slice.field-0.bytes ≡ f k = ap (λ (r : Room). r.bytes) c.in_ok-from_slice.ensures ∙ c.laid_entry-entry.ensures.same in
    c.in_ok-push.ensures.ok
    ∙ ap (λ (l : List (List ℕ)). l ++ c.in_ok-from_slice.field-0.bytes ∷ []) c.loop-k.invariant
    ∙ ap (λ (e : List ℕ). map f (range_with_len 0 k) ++ e ∷ []) one
    ∙ sym (map-range_with_len_more f 0 k k (omega arith))

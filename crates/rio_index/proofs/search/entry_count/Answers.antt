use Rattle.std.proofs.Common.{◌≡◌, ◌∙◌, ℕ, ◌+◌, ◌-◌, ◌<◌, ◌≤◌, List, length, Option, Some, slice_get, slice_index_or, sym, ap, arith}
use Rattle.std.proofs.{lemmas.Bool.{ltb-false, ltb-true}, lemmas.Option.{slice_get-get_or, slice_get_past}}
use Rattle.std.specs.Option.{option_map}
use Rattle.rio_tree.specs.declared.basket_at.BasketAt.{BasketAt}
use Rattle.rio_index.specs.Scan.{first_behind}
use Rattle.rio_index.proofs.GivenLaws.{count_is}
use Rattle.rio_index.proofs.search.entry_count.Goals as goal

looked_up : (xs ys : List BasketAt) (k : ℕ) (own : BasketAt) → xs ≡ ys → k < length xs → own ≡ slice_index_or xs k own → Some own ≡ slice_get ys k
looked_up xs ys k own e lt is = ap (λ (b : BasketAt). let o : Option BasketAt = Some b in o) is ∙ sym (slice_get-get_or xs k own lt) ∙ ap (λ (bs : List BasketAt). slice_get bs k) e

pub returns-in-Some : goal.returns-in-Some
returns-in-Some c =
    let b = c.args.branch.now in
    let k = c.args.basket in
    let own = c.in-Some.own.now in
    let end = c.end_of.ensures ∙ ap (λ (bs : List BasketAt). first_behind bs (k + 1) b.entries) c.as_slice-baskets.ensures in
    let count = c.saturating_sub.ensures ∙ ap (λ (n : ℕ). n - own.first) end in
    let there = looked_up c.as_slice-baskets.result.now b.baskets k own c.as_slice-baskets.ensures (ltb-true _ _ (sym c.in-Some.ensures.lookup.0)) c.in-Some.ensures.lookup.1 in
    ap (λ (n : ℕ). let o : Option ℕ = Some n in o) count
    ∙ ap (λ (o : Option BasketAt). option_map (λ z. first_behind b.baskets (k + 1) b.entries - z.first) o) there
    ∙ sym (count_is b.baskets b.entries k)

pub returns-in-None : goal.returns-in-None
returns-in-None c =
    let b = c.args.branch.now in
    let k = c.args.basket in
    let past : length b.baskets ≤ k = omega (arith, ltb-false _ _ (sym c.in-None.ensures.lookup.0), ap (λ (bs : List BasketAt). length bs) c.as_slice-baskets.ensures) in
    let there = sym (slice_get_past b.baskets k past) in
    ap (λ (o : Option BasketAt). option_map (λ z. first_behind b.baskets (k + 1) b.entries - z.first) o) there
    ∙ sym (count_is b.baskets b.entries k)

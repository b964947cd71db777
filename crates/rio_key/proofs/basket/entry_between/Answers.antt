use Rattle.std.proofs.{Common.{ℕ, List, Option, Some, length, get_or, slice_range, sym, ap, ◌∙◌, arith}, lemmas.Option.{slice_get_past}}
use Rattle.rio_key.specs.OpenBasket.{cut_from}
use Rattle.rio_key.proofs.OpenLaws.{cut_bounds, cut_there, length-cut}
use Rattle.rio_key.proofs.basket.entry_between.Goals as goal

pub part-requires : goal.part-requires
part-requires c =
    let b = cut_bounds 0 c.args.ends.now (length c.args.bytes.now) c.args.k c.requires c.if-k-ends.true in
    (omega (arith, b.0, c.start_of.ensures), omega (arith, b.1))

pub returns-then-k-ends : goal.returns-then-k-ends
returns-then-k-ends c =
    let bytes = c.args.bytes.now in
    let ends = c.args.ends.now in
    let k = c.args.k in
    let some = λ (part : List ℕ). let o : Option (List ℕ) = Some part in o in
    ap some (c.part.ensures ∙ ap (λ (s : ℕ). slice_range bytes s (get_or ends k 0)) c.start_of.ensures) ∙ sym (cut_there 0 ends bytes k c.if-k-ends.true)

pub returns-else-k-ends : goal.returns-else-k-ends
returns-else-k-ends c =
    let list = cut_from 0 c.args.ends.now c.args.bytes.now in
    sym (slice_get_past list c.args.k (omega (arith, length-cut 0 c.args.ends.now c.args.bytes.now)))

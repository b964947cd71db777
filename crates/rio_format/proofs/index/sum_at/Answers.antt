use Rattle.std.proofs.{Common.{◌≡◌, w64, to_z, of_z, arith, ℤ, pos, ap, ◌∙◌}, lemmas.Int.{to_z-of_z}}
use Rattle.rio_format.specs.Index.{has_number, number_place, passing, sum_of}
use Rattle.rio_format.proofs.index.sum_at.Goals as goal

pub returns : goal.returns
returns c =
    let key : to_z w64 (of_z w64 c.from.result) ≡ pos c.args.sum = grind (arith, to_z-of_z) in
    c.sum_passing.ensures
    ∙ ap (passing (has_number sum_of c.args.name.now (pos c.args.sum)) c.args.classes.now) (c.copied.ensures ∙ c.get.ensures.value ∙ ap (λ (z : ℤ). number_place c.args.sums.now c.args.first z) key)

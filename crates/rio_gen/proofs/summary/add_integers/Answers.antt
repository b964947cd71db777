use Rattle.std.proofs.{Common.{rules, ◌+◌, ◌^◌, ◌%◌, ◌+ℤ◌, ◌∙◌, ℤ, of_z, to_z, ap}, lemmas.Int.{wrapping_add_onto}}
use Rattle.std.specs.Int.{int_wrap, w128}
use Rattle.rio_gen.proofs.SumLaws.{value_added}
use Rattle.rio_gen.proofs.summary.add_integers.Goals as goal

pub loop-value-preserved : goal.loop-value-preserved
loop-value-preserved c =
    let bits = c.loop-value.total-bits in
    let n = c.number_in-total.result in
    let next = wrapping_add_onto w128 bits n c.loop-value.auto.total-fits.fits (search rules) ∙ ap (λ (z : ℤ). int_wrap w128 (to_z w128 bits +ℤ z)) c.number_in-total.ensures in
    value_added (to_z w128 (of_z w128 c.args.sum)) (to_z w128 bits) (to_z w128 ((bits + of_z w128 n) % 2 ^ 128)) c.args.row.now c.loop-value.value-index c.value-item.result
    c.loop-value-test.true c.value-item.is next c.loop-value.invariant

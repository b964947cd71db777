use Rattle.std.proofs.Common.{ℕ, Result, Err, sym, ap, ◌∙◌}
use Rattle.rio_key.specs.declared.basket_fault.BasketFault.{BasketFault, TheVariants.{BadOffsets}}
use Rattle.rio_key.proofs.OffsetLaws.{before_next, offset_sound, one_bad, one_sound}
use Rattle.rio_key.proofs.basket_offsets.check_offsets.Goals as goal

pub loop-k-preserved : goal.loop-k-preserved
loop-k-preserved c =
    let layout = c.args.layout.now in
    let bytes = c.args.bytes.now in
    let k = c.loop-k.k in
    let is = sym c.sound_offset.ensures ∙ c.in-Some.is in
    (offset_sound layout bytes k c.in-Some.offset is ∙ sym (before_next layout bytes k), sym (one_sound layout bytes layout.count k c.in-Some.offset c.loop-k-test.true is) ∙ c.loop-k.invariant.1)

pub returns-in-None : goal.returns-in-None
returns-in-None c =
    let layout = c.args.layout.now in
    let bytes = c.args.bytes.now in
    let k = c.loop-k.k in
    let is = sym c.sound_offset.ensures ∙ c.in-None.is in
    ap (λ (p : ℕ). let r : Result (Unit {0}) BasketFault = Err (BadOffsets p) in r) c.offset_place.ensures.value
    ∙ sym (one_bad layout bytes layout.count k c.loop-k-test.true is)
    ∙ c.loop-k.invariant.1

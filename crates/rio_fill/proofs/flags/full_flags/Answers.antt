use Rattle.std.proofs.Common.{◌≡◌, ◌-◌, ◌<◌, length, drop, sym, ap, ◌∙◌, arith}
use Rattle.rio_fill.specs.Fill.{bit_of}
use Rattle.rio_fill.proofs.FlagLaws.{flags_fit, flags_step}
use Rattle.rio_fill.proofs.flags.full_flags.Goals.{then-is_full, else-is_full}
use Rattle.rio_fill.proofs.flags.full_flags.Goals as goal

pub overflow_mul-flags : goal.overflow_mul-flags
overflow_mul-flags c =
    let bs = c.args.branches.now in
    let es = c.args.entries.now in
    let k = c.loop-k.k in
    let b = c.index-branches-k.result in
    let bit : c.if-is_full.bit ≡ bit_of c.is_full.result = elim c.if-is_full.branch [
      | then-is_full w ↦ w.bit-is ∙ sym (ap bit_of w.if-is_full.true)
      | else-is_full w ↦ w.bit-is ∙ sym (ap bit_of w.if-is_full.false)
    ] in
    let lt : k - 1 < length bs = omega (arith, c.loop-k.invariant.1, c.loop-k-test.true) in
    let step = flags_step bs es (k - 1) b lt c.index-branches-k.is k c.is_full.result c.if-is_full.bit c.loop-k.flags (omega (arith, c.loop-k-test.true)) c.is_full.ensures bit c.loop-k.invariant.0 in
    let fit = flags_fit bs (drop (k - 1) es) (k - 1) c.requires in
    omega (arith, step, fit)

pub overflow_add-flags : goal.overflow_add-flags
overflow_add-flags c =
    let bs = c.args.branches.now in
    let es = c.args.entries.now in
    let k = c.loop-k.k in
    let b = c.index-branches-k.result in
    let bit : c.if-is_full.bit ≡ bit_of c.is_full.result = elim c.if-is_full.branch [
      | then-is_full w ↦ w.bit-is ∙ sym (ap bit_of w.if-is_full.true)
      | else-is_full w ↦ w.bit-is ∙ sym (ap bit_of w.if-is_full.false)
    ] in
    let lt : k - 1 < length bs = omega (arith, c.loop-k.invariant.1, c.loop-k-test.true) in
    let step = flags_step bs es (k - 1) b lt c.index-branches-k.is k c.is_full.result c.if-is_full.bit c.loop-k.flags (omega (arith, c.loop-k-test.true)) c.is_full.ensures bit c.loop-k.invariant.0 in
    let fit = flags_fit bs (drop (k - 1) es) (k - 1) c.requires in
    omega (arith, step, fit)

pub loop-k-preserved : goal.loop-k-preserved
loop-k-preserved c =
    let bs = c.args.branches.now in
    let es = c.args.entries.now in
    let k = c.loop-k.k in
    let b = c.index-branches-k.result in
    let bit : c.if-is_full.bit ≡ bit_of c.is_full.result = elim c.if-is_full.branch [
      | then-is_full w ↦ w.bit-is ∙ sym (ap bit_of w.if-is_full.true)
      | else-is_full w ↦ w.bit-is ∙ sym (ap bit_of w.if-is_full.false)
    ] in
    let lt : k - 1 < length bs = omega (arith, c.loop-k.invariant.1, c.loop-k-test.true) in
    (flags_step bs es (k - 1) b lt c.index-branches-k.is k c.is_full.result c.if-is_full.bit c.loop-k.flags (omega (arith, c.loop-k-test.true)) c.is_full.ensures bit c.loop-k.invariant.0, omega (arith, c.loop-k.invariant.1))

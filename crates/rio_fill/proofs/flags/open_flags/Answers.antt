use Rattle.std.proofs.Common.{◌-◌, ◌<◌, length, arith}
use Rattle.rio_fill.proofs.FlagLaws.{open_fit, open_step}
use Rattle.rio_fill.proofs.flags.open_flags.Goals as goal

pub overflow_mul-flags : goal.overflow_mul-flags
overflow_mul-flags c =
    let bs = c.args.branches.now in
    let k = c.loop-k.k in
    let lt : k - 1 < length bs = omega (arith, c.loop-k.invariant.1, c.loop-k-test.true) in
    let step = open_step bs (k - 1) c.index-branches-k.result lt c.index-branches-k.is k c.open_bit.result c.loop-k.flags (omega (arith, c.loop-k-test.true)) c.open_bit.ensures c.loop-k.invariant.0 in
    let fit = open_fit bs (k - 1) c.requires in
    omega (arith, step, fit)

pub overflow_add-flags : goal.overflow_add-flags
overflow_add-flags c =
    let bs = c.args.branches.now in
    let k = c.loop-k.k in
    let lt : k - 1 < length bs = omega (arith, c.loop-k.invariant.1, c.loop-k-test.true) in
    let step = open_step bs (k - 1) c.index-branches-k.result lt c.index-branches-k.is k c.open_bit.result c.loop-k.flags (omega (arith, c.loop-k-test.true)) c.open_bit.ensures c.loop-k.invariant.0 in
    let fit = open_fit bs (k - 1) c.requires in
    omega (arith, step, fit)

pub loop-k-preserved : goal.loop-k-preserved
loop-k-preserved c =
    let bs = c.args.branches.now in
    let k = c.loop-k.k in
    let lt : k - 1 < length bs = omega (arith, c.loop-k.invariant.1, c.loop-k-test.true) in
    let step = open_step bs (k - 1) c.index-branches-k.result lt c.index-branches-k.is k c.open_bit.result c.loop-k.flags (omega (arith, c.loop-k-test.true)) c.open_bit.ensures c.loop-k.invariant.0 in
    (step, omega (arith, c.loop-k.invariant.1))

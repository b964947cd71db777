use Rattle.std.proofs.Common.{◌≡◌, ◌-◌, length, arith}
use Rattle.rio_free.specs.Record.{gaps_bytes}
use Rattle.rio_free.proofs.Written.{length-gaps, all_put}
use Rattle.rio_free.proofs.write.put_gaps.Goals as goal

pub returns : goal.returns
returns c =
    let bytes = all_put c.args.gaps.now c.loop-gap.gap-index c.loop-gap.into.bytes c.args.into.now.bytes c.loop-gap-test.false c.loop-gap.invariant.written in
    let spare : c.loop-gap.into.spare ≡ c.args.into.now.spare - length (gaps_bytes c.args.gaps.now) = omega (arith, length-gaps c.args.gaps.now, c.loop-gap.invariant.spare, c.loop-gap.auto.gap-index-end, c.loop-gap-test.false) in
    λ i. record { bytes = bytes i; spare = spare i }

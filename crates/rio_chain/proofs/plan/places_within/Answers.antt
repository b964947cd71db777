use Rattle.std.proofs.Common.{◌<◌, ℕ, get_or, subst, refl, arith}
use Rattle.rio_chain.proofs.Laying.{full_here}
use Rattle.rio_chain.proofs.plan.places_within.Goals as goal

pub returns-then-limit-end : goal.returns-then-limit-end
returns-then-limit-end c =
    let past = full_here c.loop-n.n-index (get_or c.args.lengths.now c.loop-n.n-index 0) c.args.limit c.args.lengths.now (record { gaps = c.loop-n.gaps.gaps; end = c.loop-n.end }) c.loop-n-test.true refl c.in-None.ensures.exact (omega (arith, c.if-limit-end.true, c.loop-n.invariant.low)) in
    subst (λ (e : ℕ). c.args.limit < e) c.loop-n.invariant.ends past

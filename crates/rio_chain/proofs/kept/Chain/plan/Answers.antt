use Rattle.std.proofs.Common.{◌∙◌, ap, arith}
use Rattle.std.specs.Prelude.{sum}
use Rattle.rio_chain.specs.{Chains.{ChainState}, Placing.{file_end, space_of}}
use Rattle.rio_chain.proofs.Laying.{end_grows}
use Rattle.rio_chain.proofs.kept.Chain.plan.Goals as goal

pub returns-then-self-limit-clause-full : goal.returns-then-self-limit-clause-full
returns-then-self-limit-clause-full c =
    let end = c.self.invariant.end_is ∙ ap (λ (s : ChainState). file_end s.segments) c.self.view_is in
    (omega (arith, end, c.if-self-limit.true, end_grows c.args.lengths.now (space_of c.args.self.now.segments)), end, c.total-wanted.ensures ∙ ap sum c.as_slice.ensures)

use Rattle.std.proofs.Common.{◌∙◌, ap, length, arith}
use Rattle.rio_chain.specs.{Chains.{ChainState}, Merging.{spans_in}}
use Rattle.rio_chain.proofs.Merged.{count_is}
use Rattle.rio_chain.proofs.kept.Chain.live.Goals as goal

pub returns : goal.returns
returns c = omega (arith, c.len.ensures, ap length (c.self.invariant.records_are ∙ ap (λ (s : ChainState). spans_in s.segments) c.self.view_is), count_is c.args.self.now.segments)

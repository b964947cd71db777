use Rattle.std.proofs.Common.{ap, sym, subst}
use Rattle.rio_chain.specs.{Chains.{ChainState, HasChain}, Changes.{without_record}}
use Rattle.rio_chain.proofs.Freeing.{free_holds, free_time, free_within}
use Rattle.rio_chain.proofs.kept.Chain.release.Goals as goal

pub put_word-requires-clause-within : goal.put_word-requires-clause-within
put_word-requires-clause-within g c file told =
    let has = c.requires.holds file told in
    free_within file has.0 c.args.self.now.segments c.args.place _ _ has.1 c.free-start.ensures.shape (c.free-start.ensures.word has.0 has.1.same)

pub returns-in-Ok-clause-any_moment : goal.returns-in-Ok-clause-any_moment
returns-in-Ok-clause-any_moment g c file links told has =
    free_time (g.H.Host.view c.args.host.now) (g.H.Host.view c.put_word.new.host) file links c.args.self.now.segments c.args.place _ _ has c.free-start.ensures.shape (c.free-start.ensures.word links has.same) (c.in-Ok.ensures.any_moment file told)

pub returns-in-Err-clause-any_moment : goal.returns-in-Err-clause-any_moment
returns-in-Err-clause-any_moment g c file links told has =
    free_time (g.H.Host.view c.args.host.now) (g.H.Host.view c.put_word.new.host) file links c.args.self.now.segments c.args.place _ _ has c.free-start.ensures.shape (c.free-start.ensures.word links has.same) (c.in-Err.ensures.any_moment file told)

pub returns-in-Ok-clause-holds : goal.returns-in-Ok-clause-holds
returns-in-Ok-clause-holds g c file links told has =
    let h = free_holds (g.H.Host.view c.put_word.new.host).holds file links c.args.self.now.segments c.args.place _ _ has c.free-start.ensures.shape (c.free-start.ensures.word links has.same) (c.in-Ok.ensures.holds file told) in
    (h.0, h.1, subst (λ s. HasChain (without_record c.args.place links) s h.0) (sym (ap (λ (s : ChainState). s.segments) c.free-start.ensures.chain)) h.2, h.3)

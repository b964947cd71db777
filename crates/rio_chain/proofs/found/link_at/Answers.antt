use Rattle.std.proofs.{Common.{◌∙◌, sym, refl, subst}, lemmas.Bool.{false≢true}}
use Rattle.rio_host.specs.Reading.{FindsWord}
use Rattle.rio_host.proofs.ReadsLaws.{reads_join}
use Rattle.rio_chain.proofs.Links.{link_found, not_alone}
use Rattle.rio_chain.proofs.found.link_at.Goals as goal

pub returns-then-not-are_apart-clause-none : goal.returns-then-not-are_apart-clause-none
returns-then-not-are_apart-clause-none g c = (
  refl,
  λ file told.
      not_alone file c.args.place c.args.word c.in_ok-segment.segment c.in_ok-behind.behind (c.requires.word file told) c.in_ok-segment.ensures.kind c.in_ok-segment.ensures.begins
      c.in_ok-segment.ensures.length (subst (λ k. FindsWord k c.in_ok-behind.behind file) c.end.ensures (c.in_ok-behind.ensures.word file (c.segment_at.ensures.calls.holds ∙ told)))
      (λ apart. false≢true (sym c.if-not-are_apart.true ∙ c.are_apart.ensures.1 apart)),
)

pub returns-clause-link : goal.returns-clause-link
returns-clause-link g c file told =
    link_found file c.args.place c.in_ok-segment.segment c.in_ok-behind.behind c.in_ok-segment.ensures.begins (c.in_ok-segment.ensures.segment file told)
    (subst (λ k. FindsWord k c.in_ok-behind.behind file) c.end.ensures (c.in_ok-behind.ensures.word file (c.segment_at.ensures.calls.holds ∙ told)))
    (c.are_apart.ensures.0 c.if-not-are_apart.false)

pub returns-in_err-behind-clause-calls : goal.returns-in_err-behind-clause-calls
returns-in_err-behind-clause-calls g c = reads_join (g.met.H.Host.lawful c.segment_at.new.host) c.segment_at.ensures.calls c.word_at.ensures.calls

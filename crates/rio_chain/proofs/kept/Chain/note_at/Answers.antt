use Rattle.std.proofs.Common.{◌≡◌, ◌∙◌, ◌-◌, ⊎_elim, ap, sym, subst, arith}
use Rattle.rio_chain.specs.{Chains.{ChainState}, Placing.{file_end}, Adjoining.{AreSegments}}
use Rattle.rio_chain.proofs.Placed.{end_grows, end_segments}
use Rattle.rio_chain.proofs.kept.Chain.note_at.Goals as goal

pub note_end-requires-clause-low : goal.note_end-requires-clause-low
note_end-requires-clause-low c =
    let now = c.args.self.now in
    let end : c.args.place ≡ file_end now.segments = c.if-place-self.true ∙ c.self.invariant.end_is ∙ ap (λ (s : ChainState). file_end s.segments) c.self.view_is in
    let shape = subst (λ (s : ChainState). AreSegments s.segments) c.self.view_is c.self.invariant.shape in
    omega (arith, c.requires.low, end_grows now.segments c.args.place c.args.n shape end)

pub note_gap-requires-clause-fit : goal.note_gap-requires-clause-fit
note_gap-requires-clause-fit c =
    let end : c.self.inside.end ≡ file_end c.args.self.now.segments = c.self.invariant.end_is ∙ ap (λ (s : ChainState). file_end s.segments) c.self.view_is in
    ⊎_elim (λ fit. fit) (λ is. absurd (c.if-place-self.false (is ∙ sym end))) c.requires.free

pub returns-then-place-self : goal.returns-then-place-self
returns-then-place-self c =
    let now = c.args.self.now in
    let end : c.args.place ≡ file_end now.segments = c.if-place-self.true ∙ c.self.invariant.end_is ∙ ap (λ (s : ChainState). file_end s.segments) c.self.view_is in
    let shape = subst (λ (s : ChainState). AreSegments s.segments) c.self.view_is c.self.invariant.shape in
    c.note_end.ensures ∙ (λ i. record { segments = sym (end_segments now.segments c.args.place c.args.n shape end) i; spare = now.spare - 1; spent = now.spent })

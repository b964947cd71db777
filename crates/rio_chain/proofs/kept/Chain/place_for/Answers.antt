use Rattle.std.proofs.Common.{◌≡◌, inl, ℕ, Option, Some, ap, subst, ◌∙◌, arith}
use Rattle.std.specs.Option.{unwrap_or}
use Rattle.rio_free.specs.Gaps.{best_place}
use Rattle.rio_chain.specs.{Adjoining.{AreSegments}, Chains.{ChainState}, Placing.{file_end, gaps_in, place_of}}
use Rattle.rio_chain.proofs.Placed.{low_place, place_free}
use Rattle.rio_chain.proofs.kept.Chain.place_for.Goals as goal

pub returns-in-Some-clause-low : goal.returns-in-Some-clause-low
returns-in-Some-clause-low c =
    let segments = c.args.self.now.segments in
    let shape : AreSegments segments = subst (λ (s : ChainState). AreSegments s.segments) c.self.view_is c.self.invariant.shape in
    let gaps = c.self.invariant.gaps_are ∙ ap (λ (s : ChainState). gaps_in s.segments) c.self.view_is in
    let end = c.self.invariant.end_is ∙ ap (λ (s : ChainState). file_end s.segments) c.self.view_is in
    let at : Some c.in-Some.place ≡ best_place c.args.n (gaps_in segments) = c.in-Some.ensures.exact ∙ ap (best_place c.args.n) gaps in
    let is : c.in-Some.place ≡ place_of segments c.args.n = ap (λ (o : Option ℕ). unwrap_or o (file_end segments)) at in
    omega (arith, low_place segments c.in-Some.place c.args.n shape (place_free segments c.args.n c.in-Some.place (inl is)), end, c.self.invariant.low)

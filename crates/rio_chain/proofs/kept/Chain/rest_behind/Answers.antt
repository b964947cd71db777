use Rattle.std.proofs.Common.{◌∙◌, ◌-◌, ap, subst, arith}
use Rattle.rio_free.specs.Gaps.{gap_over}
use Rattle.rio_chain.specs.{Adjoining.{AreSegments}, Chains.{ChainState}, Placing.{file_end, gaps_in}}
use Rattle.rio_chain.proofs.{Merged.{resting}, Placed.{aligned_place, low_place, low_rest, place_free}}
use Rattle.rio_chain.proofs.kept.Chain.rest_behind.Goals as goal

pub overflow_sub-result : goal.overflow_sub-result
overflow_sub-result c =
    let now = c.args.self.now in
    let shape : AreSegments now.segments = subst (λ (s : ChainState). AreSegments s.segments) c.self.view_is c.self.invariant.shape in
    let gaps = c.self.invariant.gaps_are ∙ ap (λ (s : ChainState). gaps_in s.segments) c.self.view_is in
    let r = resting now.segments c.args.place c.args.n c.gap_over.result shape c.requires (c.gap_over.ensures ∙ ap (gap_over c.args.place) gaps) in
    omega (arith, r.short c.in-Some.gap c.in-Some.is)

pub returns-in-Some-clause-rest : goal.returns-in-Some-clause-rest
returns-in-Some-clause-rest c =
    let now = c.args.self.now in
    let shape : AreSegments now.segments = subst (λ (s : ChainState). AreSegments s.segments) c.self.view_is c.self.invariant.shape in
    let gaps = c.self.invariant.gaps_are ∙ ap (λ (s : ChainState). gaps_in s.segments) c.self.view_is in
    let r = resting now.segments c.args.place c.args.n c.gap_over.result shape c.requires (c.gap_over.ensures ∙ ap (gap_over c.args.place) gaps) in
    r.rest c.in-Some.gap c.in-Some.is

pub returns-in-None-clause-rest : goal.returns-in-None-clause-rest
returns-in-None-clause-rest c =
    let now = c.args.self.now in
    let shape : AreSegments now.segments = subst (λ (s : ChainState). AreSegments s.segments) c.self.view_is c.self.invariant.shape in
    let gaps = c.self.invariant.gaps_are ∙ ap (λ (s : ChainState). gaps_in s.segments) c.self.view_is in
    let r = resting now.segments c.args.place c.args.n c.gap_over.result shape c.requires (c.gap_over.ensures ∙ ap (gap_over c.args.place) gaps) in
    r.none c.in-None.is

pub returns-in-Some-clause-small : goal.returns-in-Some-clause-small
returns-in-Some-clause-small c =
    let now = c.args.self.now in
    let shape : AreSegments now.segments = subst (λ (s : ChainState). AreSegments s.segments) c.self.view_is c.self.invariant.shape in
    let gaps = c.self.invariant.gaps_are ∙ ap (λ (s : ChainState). gaps_in s.segments) c.self.view_is in
    let end = c.self.invariant.end_is ∙ ap (λ (s : ChainState). file_end s.segments) c.self.view_is in
    let r = resting now.segments c.args.place c.args.n c.gap_over.result shape c.requires (c.gap_over.ensures ∙ ap (gap_over c.args.place) gaps) in
    omega (arith, low_rest now.segments c.args.place c.args.n (c.in-Some.gap.length - c.args.n) shape (r.rest c.in-Some.gap c.in-Some.is), end, c.self.invariant.low)

pub returns-in-Some-clause-aligned : goal.returns-in-Some-clause-aligned
returns-in-Some-clause-aligned c =
    let now = c.args.self.now in
    let shape : AreSegments now.segments = subst (λ (s : ChainState). AreSegments s.segments) c.self.view_is c.self.invariant.shape in
    aligned_place now.segments c.args.place c.args.n shape (place_free now.segments c.args.n c.args.place c.requires)

pub returns-in-None-clause-aligned : goal.returns-in-None-clause-aligned
returns-in-None-clause-aligned c =
    let now = c.args.self.now in
    let shape : AreSegments now.segments = subst (λ (s : ChainState). AreSegments s.segments) c.self.view_is c.self.invariant.shape in
    aligned_place now.segments c.args.place c.args.n shape (place_free now.segments c.args.n c.args.place c.requires)

pub returns-in-Some-clause-low : goal.returns-in-Some-clause-low
returns-in-Some-clause-low c =
    let now = c.args.self.now in
    let shape : AreSegments now.segments = subst (λ (s : ChainState). AreSegments s.segments) c.self.view_is c.self.invariant.shape in
    let end = c.self.invariant.end_is ∙ ap (λ (s : ChainState). file_end s.segments) c.self.view_is in
    omega (arith, low_place now.segments c.args.place c.args.n shape (place_free now.segments c.args.n c.args.place c.requires), end, c.self.invariant.low)

pub returns-in-None-clause-low : goal.returns-in-None-clause-low
returns-in-None-clause-low c =
    let now = c.args.self.now in
    let shape : AreSegments now.segments = subst (λ (s : ChainState). AreSegments s.segments) c.self.view_is c.self.invariant.shape in
    let end = c.self.invariant.end_is ∙ ap (λ (s : ChainState). file_end s.segments) c.self.view_is in
    omega (arith, low_place now.segments c.args.place c.args.n shape (place_free now.segments c.args.n c.args.place c.requires), end, c.self.invariant.low)

use Rattle.std.proofs.Common.{◌≡◌, ◌∙◌, ◌+◌, get_or, take, suc, ℕ, List, refl, sym, ap, subst, arith}
use Rattle.rio_free.specs.{Gaps.{FreeGaps, IsApart, gap_of, given}, declared.gap.Gap.{Gap as FreeGap}}
use Rattle.rio_chain.specs.{declared.segment.Segment.TheVariants.{Record}, Placing.{gaps_in}}
use Rattle.rio_chain.proofs.{Gathered.{gathering}, gather.gaps_of.Goals.{in-Record, in-Gap+in_ok-reserve-in-Gap}}
use Rattle.rio_chain.proofs.gather.gaps_of.Goals as goal

pub give-requires-clause-some : goal.give-requires-clause-some
give-requires-clause-some c =
    let k = c.loop-segment.segment-index in
    let segments = c.args.segments.now in
    (gathering segments k (get_or segments k (Record 0 0)) (Record 0 0) c.requires.shape c.loop-segment-test.true refl).some c.in-Gap.place c.in-Gap.length c.in-Gap.is

pub give-requires-clause-fits : goal.give-requires-clause-fits
give-requires-clause-fits c =
    let k = c.loop-segment.segment-index in
    let segments = c.args.segments.now in
    let low = (gathering segments k (get_or segments k (Record 0 0)) (Record 0 0) c.requires.shape c.loop-segment-test.true refl).low c.in-Gap.place c.in-Gap.length c.in-Gap.is in
    omega (arith, low, c.requires.low)

pub give-requires-clause-apart : goal.give-requires-clause-apart
give-requires-clause-apart c =
    let k = c.loop-segment.segment-index in
    let segments = c.args.segments.now in
    let apart = (gathering segments k (get_or segments k (Record 0 0)) (Record 0 0) c.requires.shape c.loop-segment-test.true refl).apart c.in-Gap.place c.in-Gap.length c.in-Gap.is in
    let same = ap (λ (l : FreeGaps). l.gaps) c.in_ok-reserve-in-Gap.ensures.ok ∙ c.loop-segment.invariant in
    subst (λ (l : List FreeGap). IsApart (gap_of c.in-Gap.place c.in-Gap.length) l) (sym same) apart

pub loop-segment-preserved : goal.loop-segment-preserved
loop-segment-preserved c =
    let k = c.loop-segment.segment-index in
    let segments = c.args.segments.now in
    let g = gathering segments k (get_or segments k (Record 0 0)) (Record 0 0) c.requires.shape c.loop-segment-test.true refl in
    let next : gaps_in (take (suc k) segments) ≡ gaps_in (take (k + 1) segments) = ap (λ (n : ℕ). gaps_in (take n segments)) (let e : suc k ≡ k + 1 = omega arith in e) in
    elim c.match-segment.branch [
      | in-Record w ↦ ap (λ (l : FreeGaps). l.gaps) w.gaps-is ∙ c.loop-segment.invariant ∙ g.none w.in-Record.place w.in-Record.length w.in-Record.is ∙ next
      | in-Gap+in_ok-reserve-in-Gap w ↦
          ap (λ (l : FreeGaps). l.gaps) (w.gaps-is ∙ w.give.ensures.exact)
          ∙ ap (λ (l : FreeGaps). given (gap_of w.in-Gap.place w.in-Gap.length) l.gaps) w.in_ok-reserve-in-Gap.ensures.ok
          ∙ ap (given (gap_of w.in-Gap.place w.in-Gap.length)) c.loop-segment.invariant
          ∙ g.gives w.in-Gap.place w.in-Gap.length w.in-Gap.is ∙ next
    ]

use Rattle.std.proofs.Common.{◌∙◌, ◌++◌, [], ◌∷◌, List, get_or, take, refl, sym, ap}
use Rattle.std.proofs.lemmas.List.{append-nil}
use Rattle.rio_chain.specs.declared.segment.{Segment.{Segment, TheVariants.{Record}}, Span.{Span}}
use Rattle.rio_chain.specs.Merging.{span_of, spans_in}
use Rattle.rio_chain.proofs.{Merged.{spans_next}, gather.spans_of.Goals.{in-Record+in_ok-push-in-Record, in-Gap}}
use Rattle.rio_chain.proofs.gather.spans_of.Goals as goal

pub loop-segment-preserved : goal.loop-segment-preserved
loop-segment-preserved c =
    let k = c.loop-segment.segment-index in
    let segments = c.args.segments.now in
    let next = spans_next segments k (get_or segments k (Record 0 0)) (Record 0 0) c.loop-segment-test.true refl in
    elim c.match-segment.branch [
      | in-Record+in_ok-push-in-Record w ↦
          ap (λ v. v.items) w.spans-is ∙ w.in_ok-push-in-Record.ensures.items ∙ ap (λ (l : List Span). l ++ span_of w.in-Record.place w.in-Record.length ∷ []) c.loop-segment.invariant
          ∙ sym (next ∙ ap (λ (s : Segment). spans_in (take k segments) ++ spans_in (s ∷ [])) w.in-Record.is)
      | in-Gap w ↦
          ap (λ v. v.items) w.spans-is ∙ c.loop-segment.invariant
          ∙ sym (next ∙ ap (λ (s : Segment). spans_in (take k segments) ++ spans_in (s ∷ [])) w.in-Gap.is ∙ append-nil (spans_in (take k segments)))
    ]

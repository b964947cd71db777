use Rattle.std.proofs.Common.{◌∙◌, ℕ, List, ap, sym}
use Rattle.std.specs.List.{slice_get}
use Rattle.rio_free.specs.{Gaps.{length_at}, declared.gap.Gap.{Gap}}
use Rattle.rio_free.proofs.Given.{join_none, join_removed}
use Rattle.rio_free.proofs.list.join_next.Goals as goal

pub returns-in-None-clause-joins : goal.returns-in-None-clause-joins
returns-in-None-clause-joins c =
    let read = ap (λ (l : List Gap). length_at c.end.result (slice_get l c.args.at)) c.deref.ensures.value ∙ ap (λ (k : ℕ). length_at k (slice_get c.args.gaps.now.items c.args.at)) c.end.ensures in
    join_none c.args.gap c.args.gaps.now.items c.args.at (sym (c.in-None.ensures ∙ read))

pub returns-in-Some-clause-joins : goal.returns-in-Some-clause-joins
returns-in-Some-clause-joins c =
    let read = ap (λ (l : List Gap). length_at c.end.result (slice_get l c.args.at)) c.deref.ensures.value ∙ ap (λ (k : ℕ). length_at k (slice_get c.args.gaps.now.items c.args.at)) c.end.ensures in
    rw c.remove.ensures.items (join_removed c.args.gap c.args.gaps.now.items c.args.at c.in-Some.length (sym (c.in-Some.ensures ∙ read)))

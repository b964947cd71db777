use Rattle.std.proofs.{Common.{◌∙◌, ap, subst, sym, rules}, lemmas.List.Sorted.{IsPartitionedBy-ltb, IsPartitionPoint-from_clause}}
use Rattle.std.specs.List.{prefix_len, Sorted.{IsNonDecreasingBy}}
use Rattle.rio_chain.specs.{Chains.{ChainState}, Merging.{span_of, spans_in}}
use Rattle.rio_chain.proofs.{Indices.{point_at}, Merged.{begins_before, span_start, spans_rise}}
use Rattle.rio_chain.proofs.kept.Chain.count_before.Goals as goal

pub returns : goal.returns
returns c =
    let i = c.self.invariant in
    let items = c.deref.result.now in
    let same = c.deref.ensures.value ∙ i.records_are ∙ ap (λ (s : ChainState). spans_in s.segments) c.self.view_is in
    let rise = subst (IsNonDecreasingBy span_start) (sym (c.deref.ensures.value ∙ i.records_are)) (spans_rise 100 _ i.shape.adjacent) in
    let parted = IsPartitionedBy-ltb span_start items c.args.place rise in
    let point = IsPartitionPoint-from_clause (begins_before c.args.place) items c.partition_point.result c.partition_point.ensures.partitioned parted (λ a r f' k. search rules) in
    point_at (begins_before c.args.place) items (span_of 0 0) c.partition_point.result c.partition_point.ensures.bound point ∙ ap (prefix_len (begins_before c.args.place)) same

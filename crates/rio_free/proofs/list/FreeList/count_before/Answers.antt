use Rattle.std.proofs.{Common.{◌≡◌, ◌∙◌, ltb, ap, subst, sym, rules}, lemmas.List.Sorted.{IsPartitionedBy-ltb, IsPartitionPoint-from_clause}}
use Rattle.std.specs.List.{prefix_len}
use Rattle.rio_free.specs.Gaps.{AreGaps, FreeGaps}
use Rattle.rio_free.proofs.Order.{places_rise, point_is, start_of}
use Rattle.rio_free.proofs.list.FreeList.count_before.Goals as goal

pub returns : goal.returns
returns c =
    let items = c.deref.result.now in
    let same : items ≡ c.args.self.now.gaps = c.deref.ensures.value ∙ ap (λ (l : FreeGaps). l.gaps) c.self.view_is in
    let are : AreGaps items = subst AreGaps (sym c.deref.ensures.value) c.self.invariant.sorted in
    let parted = IsPartitionedBy-ltb start_of items c.args.place (places_rise 0 items are) in
    let point = IsPartitionPoint-from_clause (λ g. ltb g.place c.args.place) items c.partition_point.result c.partition_point.ensures.partitioned parted (λ a r f' k. search rules) in
    point_is (λ g. ltb g.place c.args.place) items c.partition_point.result c.partition_point.ensures.bound point ∙ ap (prefix_len (λ g. ltb g.place c.args.place)) same

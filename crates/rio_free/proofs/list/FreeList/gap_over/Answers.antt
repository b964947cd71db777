use Rattle.std.proofs.{Common.{◌∙◌, ◌-◌, ◌<◌, get_or, length, ap, sym, subst, arith, rules}, lemmas.List.Sorted.{IsPartitionedBy-leb, IsPartitionPoint-from_clause}}
use Rattle.rio_free.specs.Gaps.{AreGaps, FreeGaps}
use Rattle.rio_free.proofs.{Order.{ends_fit, places_rise, point_is, start_of}, Over.{begins_by, over}}
use Rattle.rio_free.proofs.list.FreeList.gap_over.Goals as goal

pub returns-then-behind-eq0 : goal.returns-then-behind-eq0
returns-then-behind-eq0 c =
    let items = c.deref.result.now in
    let same = ap (λ (l : FreeGaps). l.gaps) c.self.view_is in
    let are : AreGaps items = subst AreGaps (sym c.deref.ensures.value) c.self.invariant.sorted in
    let parted = IsPartitionedBy-leb start_of items c.args.place (places_rise 0 items are) in
    let point = IsPartitionPoint-from_clause (begins_by c.args.place) items c.partition_point-behind.result c.partition_point-behind.ensures.partitioned parted (λ a r f' k. search rules) in
    let at = point_is (begins_by c.args.place) items c.partition_point-behind.result c.partition_point-behind.ensures.bound point in
    let o = over c.args.place c.args.self.now.gaps c.self.inside.gaps.items items c.partition_point-behind.result same c.deref.ensures.value c.self.invariant.sorted at in
    sym (o.none c.if-behind-eq0.true)

pub index-requires : goal.index-requires
index-requires c =
    omega (arith, c.partition_point-behind.ensures.bound, ap length c.deref.ensures.value, c.if-behind-eq0.false)

pub end-requires : goal.end-requires
end-requires c =
    let inside : c.partition_point-behind.result - 1 < length c.self.inside.gaps.items = omega (arith, c.partition_point-behind.ensures.bound, ap length c.deref.ensures.value, c.if-behind-eq0.false) in
    let e = ends_fit 0 c.self.inside.gaps.items c.self.invariant.sorted (c.partition_point-behind.result - 1) c.index.result.now inside in
    rw c.index.ensures e

pub returns-then-place-end : goal.returns-then-place-end
returns-then-place-end c =
    let items = c.deref.result.now in
    let same = ap (λ (l : FreeGaps). l.gaps) c.self.view_is in
    let are : AreGaps items = subst AreGaps (sym c.deref.ensures.value) c.self.invariant.sorted in
    let parted = IsPartitionedBy-leb start_of items c.args.place (places_rise 0 items are) in
    let point = IsPartitionPoint-from_clause (begins_by c.args.place) items c.partition_point-behind.result c.partition_point-behind.ensures.partitioned parted (λ a r f' k. search rules) in
    let at = point_is (begins_by c.args.place) items c.partition_point-behind.result c.partition_point-behind.ensures.bound point in
    let o = over c.args.place c.args.self.now.gaps c.self.inside.gaps.items items c.partition_point-behind.result same c.deref.ensures.value c.self.invariant.sorted at in
    sym (o.found (omega (arith, c.if-behind-eq0.false)) c.index.result.now (c.index.ensures ∙ ap (λ l. get_or l (c.partition_point-behind.result - 1) c.index.result.now) same) (omega (arith, c.if-place-end.true, c.end.ensures)))

pub returns-else-place-end : goal.returns-else-place-end
returns-else-place-end c =
    let items = c.deref.result.now in
    let same = ap (λ (l : FreeGaps). l.gaps) c.self.view_is in
    let are : AreGaps items = subst AreGaps (sym c.deref.ensures.value) c.self.invariant.sorted in
    let parted = IsPartitionedBy-leb start_of items c.args.place (places_rise 0 items are) in
    let point = IsPartitionPoint-from_clause (begins_by c.args.place) items c.partition_point-behind.result c.partition_point-behind.ensures.partitioned parted (λ a r f' k. search rules) in
    let at = point_is (begins_by c.args.place) items c.partition_point-behind.result c.partition_point-behind.ensures.bound point in
    let o = over c.args.place c.args.self.now.gaps c.self.inside.gaps.items items c.partition_point-behind.result same c.deref.ensures.value c.self.invariant.sorted at in
    sym (o.missed (omega (arith, c.if-behind-eq0.false)) c.index.result.now (c.index.ensures ∙ ap (λ l. get_or l (c.partition_point-behind.result - 1) c.index.result.now) same) (omega (arith, c.if-place-end.false, c.end.ensures)))

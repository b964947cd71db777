use Rattle.std.proofs.{Common.{List, length, map, refl, sym, ap, ◌∙◌, arith}, lemmas.{List.{length-map}, Option.{slice_get_read}}}
use Rattle.rio_entry.specs.Counting.{counters_within}
use Rattle.rio_entry.proofs.Left.{at_place}
use Rattle.rio_fill.specs.Fill.{defs_of, entry_count}
use Rattle.rio_session.specs.Scans.{entries_of_row}
use Rattle.rio_session.proofs.ScanParts.{counter_there, entries_more, entries_stop, entry_known, map_more, parts_more}
use Rattle.rio_session.proofs.scan_rows.row_parts.Goals as goal

pub returns-in-Err-clause-entries : goal.returns-in-Err-clause-entries
returns-in-Err-clause-entries c =
    let t = c.args.tree.now.filler.now in
    let k = c.loop-k.k in
    let e = c.args.entry in
    let lanes = c.args.lanes.now in
    let lane = c.index-lanes-k.result in
    let at = c.branch_at-branch in
    let b = at_place t.branches k (omega (arith, c.requires)) in
    let held = slice_get_read lanes (length lanes) k lane refl (omega arith) c.index-lanes-k.is in
    let known = entry_known t k at.result.baskets.now at.result.basket.now at.result.first at.ensures.baskets at.ensures.basket at.ensures.first b.0 lane e b.1 in
    entries_stop (entry_count t) t.branches lanes e k b.0 lane b.1 held (map (λ part. part.entry.now) c.loop-k.parts.items) c.in-Err.fault (entries_of_row (entry_count t) t.branches lanes e)
    (sym known ∙ sym c.in-Err.ensures.exact) c.loop-k.invariant.entries

pub invariant_of-push : goal.invariant_of-push
invariant_of-push c =
    let t = c.args.tree.now.filler.now in
    let k = c.loop-k.k in
    let counters = c.args.tree.now.counters.now in
    let all = c.args.tree.now.counted in
    let own = slice_get_read counters (length counters) k c.index-tree-k.result refl (omega (arith, ap (λ (l : List _). length l) all, length-map t.branches (λ b. counters_within b.def.shape), c.requires)) c.index-tree-k.is in
    record { counted = sym c.index-tree-k.is ∙ counter_there t.branches counters k c.branch_at-branch.result.def.now c.index-tree-k.result c.args.tree.now.counted c.branch_at-branch.ensures.def own; short = c.in-Ok.ensures.short }

pub loop-k-preserved : goal.loop-k-preserved
loop-k-preserved c =
    let t = c.args.tree.now.filler.now in
    let k = c.loop-k.k in
    let e = c.args.entry in
    let lanes = c.args.lanes.now in
    let lane = c.index-lanes-k.result in
    let at = c.branch_at-branch in
    let b = at_place t.branches k (omega (arith, c.requires)) in
    let held = slice_get_read lanes (length lanes) k lane refl (omega arith) c.index-lanes-k.is in
    let known = entry_known t k at.result.baskets.now at.result.basket.now at.result.first at.ensures.baskets at.ensures.basket at.ensures.first b.0 lane e b.1 in
    record {
      branches = map_more (λ b. b.def) t.branches k (map (λ part. part.branch.now) c.loop-k.parts.items) _ at.result.def.now (defs_of t.branches) at.ensures.def
          (parts_more (λ part. part.branch.now) c.loop-k.parts.items c.push.new.self.items _ at.result.def.now c.in_ok-push.ensures.items refl) c.loop-k.invariant.branches;
      entries = entries_more (entry_count t) t.branches lanes e k b.0 lane b.1 held (map (λ part. part.entry.now) c.loop-k.parts.items) _ c.in-Ok.bytes.now (entries_of_row (entry_count t) t.branches lanes e)
          (sym known ∙ sym c.in-Ok.ensures.exact) (parts_more (λ part. part.entry.now) c.loop-k.parts.items c.push.new.self.items _ c.in-Ok.bytes.now c.in_ok-push.ensures.items refl) c.loop-k.invariant.entries;
    }

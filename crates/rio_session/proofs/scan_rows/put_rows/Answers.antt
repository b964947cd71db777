use Rattle.std.proofs.{Common.{List, ◌+◌, drop, length, refl, sym, ap, subst, ◌∙◌, arith}, lemmas.{List.{length-map}, Result.{IfOk-at_ok}}}
use Rattle.rio_chain.specs.Segments.{Link}
use Rattle.rio_entry.specs.Counting.{counters_within}
use Rattle.rio_entry.proofs.Left.{only_new, was_ok}
use Rattle.rio_entry.specs.declared.lane.Lane.{Lane}
use Rattle.rio_host.proofs.ReadsLaws.{reads_join, reads_none}
use Rattle.rio_session.specs.HeldBaskets.{AreLanes}
use Rattle.rio_session.proofs.{HeldLanes.{fresh_lanes, lanes_later}, ScanLines.{none_put, one_put, one_refused}}
use Rattle.rio_session.proofs.scan_rows.put_rows.Goals as goal

pub loop-entry-init : goal.loop-entry-init
loop-entry-init g c =
    let empty = was_ok _ c.empty_lanes.result c.map_err.result _ c.map_err.ensures.cases c.in_ok-lanes.was in
    let t = c.args.tree.now.filler.now in
    record {
      calls = reads_none (g.H.Host.view c.args.host.now);
      calm = refl;
      put = none_put (g.H.Host.view c.args.host.now) c.args.tree.now.chain.now.segments c.args.tree.now.classes.now c.args.class.now t c.args.text.now.bytes;
      lanes = λ file links told chain. fresh_lanes links 0 t.branches _ (IfOk-at_ok _ empty c.empty_lanes.ensures.empty);
      width = IfOk-at_ok _ empty c.empty_lanes.ensures.count ∙ ap (λ (l : List _). length l) c.args.tree.now.counted ∙ length-map t.branches (λ b. counters_within b.def.shape);
    }

pub loop-entry-preserved : goal.loop-entry-preserved
loop-entry-preserved g c =
    let t = c.args.tree.now.filler.now in
    let e = c.loop-entry.entry in
    let size = sym c.deref_mut.ensures.len ∙ sym c.in_ok-found.ensures.lanes in
    let same = only_new c.find_row.new.lanes (drop (length c.find_row.new.lanes) c.loop-entry.lanes.items) c.loop-entry.lanes.len size in
    let before : (file : List _) (links : List Link) → AreLanes links e t.branches c.loop-entry.lanes.items → AreLanes links e t.branches c.deref_mut.result.now = λ file links are. subst (λ (ls : List Lane). AreLanes links e t.branches ls) (sym c.deref_mut.ensures.value) are in
    record {
      calls = reads_join (g.met.H.Host.lawful c.loop-entry.host) c.loop-entry.invariant.calls c.in_ok-found.ensures.calls;
      calm = c.in_ok-found.ensures.cause ∙ c.loop-entry.invariant.calm;
      put = one_put (g.H.Host.view c.args.host.now) c.args.tree.now.chain.now.segments c.args.tree.now.classes.now c.args.class.now t c.args.text.now.bytes e c.loop-entry.text.bytes c.loop-entry.invariant.put c.in_ok-found.found
          (omega (arith, c.requires.entries))
          (λ file told links all chain are row there. c.in_ok-found.ensures.row file links all (c.loop-entry.invariant.calls.holds ∙ told) chain (before file links (c.loop-entry.invariant.lanes file links told chain)) are row there)
          c.put_found.new.text.bytes c.in-Ok.ensures;
      lanes = λ file links told chain.
          subst (λ (ls : List Lane). AreLanes links (e + 1) t.branches ls) (sym same) (lanes_later links t e c.find_row.new.lanes (c.in_ok-found.ensures.kept file links (c.loop-entry.invariant.calls.holds ∙ told) chain (before file links (c.loop-entry.invariant.lanes file links told chain))));
      width = ap length same ∙ c.in_ok-found.ensures.lanes ∙ ap length c.deref_mut.ensures.value ∙ c.loop-entry.invariant.width;
    }

pub returns-in-Err-clause-rows : goal.returns-in-Err-clause-rows
returns-in-Err-clause-rows g c =
    let t = c.args.tree.now.filler.now in
    let e = c.loop-entry.entry in
    one_refused (g.H.Host.view c.args.host.now) c.args.tree.now.chain.now.segments c.args.tree.now.classes.now c.args.class.now t c.args.text.now.bytes e c.loop-entry.text.bytes c.loop-entry.invariant.put c.in_ok-found.found
    (omega (arith, c.requires.entries))
    (λ file told links all chain are row there. c.in_ok-found.ensures.row file links all (c.loop-entry.invariant.calls.holds ∙ told) chain
    (subst (λ (ls : List Lane). AreLanes links e t.branches ls) (sym c.deref_mut.ensures.value) (c.loop-entry.invariant.lanes file links told chain)) are row there)
    _ c.in-Err.fault c.in-Err.ensures

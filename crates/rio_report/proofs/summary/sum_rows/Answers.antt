use Rattle.std.proofs.Common.{◌≡◌, ◌+◌, ℕ, List, length, drop, refl, sym, ap, subst, ◌∙◌, arith}
use Rattle.rio_host.proofs.ReadsLaws.{reads_join, reads_none}
use Rattle.rio_entry.specs.{declared.lane.Lane.{Lane}, Lanes.{AreLanes}}
use Rattle.rio_entry.proofs.{Left.{only_new}, Walks.{lanes_later}}
use Rattle.rio_report.proofs.Summaries.{all_summed, none_summed, row_summed}
use Rattle.rio_report.proofs.summary.sum_rows.Goals as goal

pub loop-entry-init : goal.loop-entry-init
loop-entry-init g c = record {
  calls = reads_none (g.H.Host.view c.args.host.now);
  calm = refl;
  within = omega arith;
  sum = λ file told. none_summed file c.args.tree.now.classes.now c.args.tree.now.branches.now c.args.entries c.args.baskets;
  lanes = λ file told. c.in_ok-lanes.ensures.empty file 0 c.args.tree.now.branches.now;
  width = c.in_ok-lanes.ensures.count;
}

pub loop-entry-preserved : goal.loop-entry-preserved
loop-entry-preserved g c =
    let classes = c.args.tree.now.classes.now in
    let bs = c.args.tree.now.branches.now in
    let e = c.loop-entry.entry in
    let size = sym c.deref_mut.ensures.len ∙ sym c.in_ok-row.ensures.lanes in
    let same = only_new c.read_saved_row.new.lanes (drop (length c.read_saved_row.new.lanes) c.loop-entry.lanes.items) c.loop-entry.lanes.len size in
    let before : (file : List ℕ) → AreLanes file e bs c.loop-entry.lanes.items → AreLanes file e bs c.deref_mut.result.now = λ file are. subst (λ (ls : List Lane). AreLanes file e bs ls) (sym c.deref_mut.ensures.value) are in
    record {
      calls = reads_join (g.met.H.Host.lawful c.loop-entry.host) c.loop-entry.invariant.calls c.in_ok-row.ensures.calls;
      calm = c.in_ok-row.ensures.cause ∙ c.loop-entry.invariant.calm;
      within = omega arith;
      sum = λ file told.
          row_summed file classes bs c.args.entries c.args.baskets e c.loop-entry.summary c.add_row.new.summary c.in_ok-row.row (c.loop-entry.invariant.sum file told)
          (c.in_ok-row.ensures.row file (c.loop-entry.invariant.calls.holds ∙ told) (before file (c.loop-entry.invariant.lanes file told))) c.add_row.ensures;
      lanes = λ file told.
          subst (λ (ls : List Lane). AreLanes file (e + 1) bs ls) (sym same) (lanes_later file e bs c.read_saved_row.new.lanes (c.in_ok-row.ensures.kept file (c.loop-entry.invariant.calls.holds ∙ told) (before file (c.loop-entry.invariant.lanes file told))));
      width = ap length same ∙ c.in_ok-row.ensures.lanes ∙ ap length c.deref_mut.ensures.value ∙ c.loop-entry.invariant.width;
    }

pub returns-clause-summary : goal.returns-clause-summary
returns-clause-summary g c = λ file told.
    all_summed file c.args.tree.now.classes.now c.args.tree.now.branches.now c.args.entries c.args.baskets c.loop-entry.entry c.loop-entry.summary
    (omega (arith, c.loop-entry.invariant.within)) (omega arith) (c.loop-entry.invariant.sum file told)

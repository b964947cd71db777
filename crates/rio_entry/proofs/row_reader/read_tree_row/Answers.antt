use Rattle.std.proofs.{Common.{length, take, get_or, None, length-set, refl, sym, ap, ◌∙◌, arith}, lemmas.Option.{slice_get-get_or}}
use Rattle.rio_host.proofs.ReadsLaws.{reads_join, reads_none}
use Rattle.rio_entry.specs.Counting.{counters_within}
use Rattle.rio_tree.specs.declared.head.Branch.{Branch}
use Rattle.rio_entry.proofs.CounterLaws.{counters_for_all, counters_there}
use Rattle.rio_entry.specs.{declared.tree_row.TreeRow.{TreeRow}, Sweeps.{empty_row, sweep, sweep_one}}
use Rattle.rio_entry.specs.{Checked.{made_one, made_there, row_made}, declared.checked.Made.{Made}}
use Rattle.rio_entry.proofs.{Left.{any_default}, CheckedRows.{empty_made, length-values_made, one_more_made}, Walks.{lanes_set, sweep_last, sweep_more}}
use Rattle.rio_entry.proofs.row_reader.read_tree_row.Goals as goal

pub at-requires : goal.at-requires
at-requires g c = counters_for_all c.args.tree.now.branches.now c.args.tree.now.counters.now c.loop-k.k c.args.tree.now.counted (omega arith)

pub invariant_of-place : goal.invariant_of-place
invariant_of-place g c =
    let tree = c.args.tree.now in
    let own = counters_there tree.branches.now tree.counters.now c.loop-k.k c.index-tree-k.result c.at.result.now tree.counted (omega arith) c.index-tree-k.is c.at.ensures in
    record { counted = own ∙ ap (λ (b : Branch). counters_within b.def.shape) c.index-tree-k.is }

pub loop-k-init : goal.loop-k-init
unfolding sweep
loop-k-init g c = record {
  calls = reads_none (g.H.Host.view c.args.host.now);
  calm = refl;
  swept = λ file told are. (empty_row, c.new-row.ensures ∙ empty_made c.args.made.now, refl);
  lanes = λ file told are. are;
  count = ap (λ (row : TreeRow). length row.refusals) c.new-row.ensures;
  values = ap (λ (row : TreeRow). length row.values) c.new-row.ensures;
  width = refl;
}

pub loop-k-preserved : goal.loop-k-preserved
loop-k-preserved g c =
    let bs = c.args.tree.now.branches.now in
    let rs = c.args.refusals.now in
    let ms = c.args.made.now in
    let classes = c.args.tree.now.classes.now in
    let e = c.args.entry in
    let k = c.loop-k.k in
    let b = c.index-tree-k.result in
    let lane = c.index-lanes-k.result in
    let there = slice_get-get_or bs k b (omega arith) in
    let held = slice_get-get_or c.loop-k.lanes k lane (omega arith) in
    record {
      calls = reads_join (g.met.H.Host.lawful c.loop-k.host) c.loop-k.invariant.calls c.in_ok-sweep_branch.ensures.calls;
      calm = c.in_ok-sweep_branch.ensures.cause ∙ c.loop-k.invariant.calm;
      swept = λ file told are.
          let one = c.in_ok-sweep_branch.ensures.row file (c.loop-k.invariant.calls.holds ∙ told) (c.loop-k.invariant.lanes file told are k _ _ there held) in
          let was = c.loop-k.invariant.swept file told are in
          let full = was.0 in
          let size = sym (length-values_made ms full.values) ∙ sym (ap (λ (row : TreeRow). length row.values) was.1) ∙ c.loop-k.invariant.values in (
            sweep_one file classes e (take k bs) full (get_or bs k b) (get_or rs k None),
            one.0
                ∙ ap (λ (m : Made). made_one m file classes e (take k bs) c.loop-k.row (get_or bs k b) (get_or rs k None)) c.made_there.ensures
                ∙ ap (λ (row : TreeRow). made_one (made_there ms k) file classes e (take k bs) row (get_or bs k b) (get_or rs k None)) was.1
                ∙ one_more_made file classes e (take k bs) ms full k (get_or bs k b) (get_or rs k None) size (c.requires.counters k (get_or bs k b) there),
            sym (sweep_more file classes bs e k (get_or bs k b) (get_or rs k None) rs full (omega arith) (any_default bs k b (get_or bs k b) (omega arith)) (omega arith) (any_default rs k None (get_or rs k None) (omega arith))) ∙ was.2,
          );
      lanes = λ file told are.
          let one = c.in_ok-sweep_branch.ensures.row file (c.loop-k.invariant.calls.holds ∙ told) (c.loop-k.invariant.lanes file told are k _ _ there held) in
          lanes_set file c.args.entry bs c.loop-k.lanes k (get_or bs k b) c.sweep_branch.new.lane (c.loop-k.invariant.lanes file told are) there one.1;
      count = omega (arith, c.in_ok-sweep_branch.ensures.count, c.loop-k.invariant.count);
      values = omega (arith, c.in_ok-sweep_branch.ensures.width, c.loop-k.invariant.values);
      width = length-set c.loop-k.lanes k c.sweep_branch.new.lane ∙ c.loop-k.invariant.width;
    }

pub returns-clause-row : goal.returns-clause-row
returns-clause-row g c file told are =
    let was = c.loop-k.invariant.swept file told are in
    let all = sym (sweep_last file c.args.tree.now.classes.now c.args.tree.now.branches.now c.args.entry c.loop-k.k c.args.refusals.now was.0 (omega arith)) ∙ was.2 in
    (was.1 ∙ ap (row_made c.args.made.now) all, c.loop-k.invariant.lanes file told are)

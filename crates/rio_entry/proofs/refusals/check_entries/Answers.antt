use Rattle.std.proofs.Common.{ℕ, List, ◌+◌, length, drop, is_none, Option, refl, sym, ap, subst, ◌∙◌, arith}
use Rattle.std.proofs.lemmas.Result.{IfOk-at_ok}
use Rattle.std.specs.List.{list_any}
use Rattle.rio_host.proofs.ReadsLaws.{reads_join, reads_none}
use Rattle.rio_tree.specs.declared.refusal.BranchRefusal.{BranchRefusal}
use Rattle.rio_entry.specs.{declared.tree_row.TreeRow.{TreeRow}, Sweeps.{sweep}}
use Rattle.rio_entry.proofs.SweepLaws.{all_refused, next_refusals}
use Rattle.rio_entry.specs.{declared.lane.Lane.{Lane}, Lanes.{AreLanes}}
use Rattle.rio_entry.proofs.{Left.{only_new, was_ok}, Walks.{lanes_later}}
use Rattle.rio_entry.proofs.refusals.check_entries.Goals as goal

pub loop-entry-init : goal.loop-entry-init
loop-entry-init g c =
    let empty = was_ok _ c.empty_lanes.result c.map_err.result _ c.map_err.ensures.cases c.in_ok-lanes.was in
    record {
      calls = reads_none (g.H.Host.view c.args.host.now);
      calm = refl;
      refusals = λ file told is. is;
      lanes = λ file told. IfOk-at_ok _ empty c.empty_lanes.ensures.empty file 0 c.args.tree.now.branches.now;
      count = c.requires.count;
      width = IfOk-at_ok _ empty c.empty_lanes.ensures.count;
    }

pub returns-then-not-is_any_read-clause-refusals : goal.returns-then-not-is_any_read-clause-refusals
returns-then-not-is_any_read-clause-refusals g c file told is =
    let now = c.loop-entry.invariant.refusals file told is in
    let none = ap (list_any is_none) (sym now) ∙ sym c.is_any_read.ensures ∙ c.if-not-is_any_read.true in
    now ∙ sym (all_refused file c.args.tree.now.classes.now c.loop-entry.entry c.args.entries c.args.tree.now.branches.now (omega arith) none)

pub loop-entry-preserved : goal.loop-entry-preserved
loop-entry-preserved g c =
    let bs = c.args.tree.now.branches.now in
    let e = c.loop-entry.entry in
    let size = sym c.deref_mut.ensures.len ∙ sym c.in_ok-row.ensures.lanes in
    let same = only_new c.read_tree_row.new.lanes (drop (length c.read_tree_row.new.lanes) c.loop-entry.lanes.items) c.loop-entry.lanes.len size in
    let before : (file : List ℕ) → AreLanes file e bs c.loop-entry.lanes.items → AreLanes file e bs c.deref_mut.result.now = λ file are. subst (λ (ls : List Lane). AreLanes file e bs ls) (sym c.deref_mut.ensures.value) are in
    record {
      calls = reads_join (g.met.H.Host.lawful c.loop-entry.host) c.loop-entry.invariant.calls c.in_ok-row.ensures.calls;
      calm = c.in_ok-row.ensures.cause ∙ c.loop-entry.invariant.calm;
      refusals = λ file told is.
          ap (λ (row : TreeRow). row.refusals) (c.in_ok-row.ensures.row file (c.loop-entry.invariant.calls.holds ∙ told) (before file (c.loop-entry.invariant.lanes file told))).0
          ∙ ap (λ (rs : List (Option BranchRefusal)). (sweep file c.args.tree.now.classes.now e bs rs).refusals) (c.as_slice.ensures ∙ c.loop-entry.invariant.refusals file told is)
          ∙ next_refusals file c.args.tree.now.classes.now e bs;
      lanes = λ file told.
          subst (λ (ls : List Lane). AreLanes file (e + 1) bs ls) (sym same) (lanes_later file e bs c.read_tree_row.new.lanes (c.in_ok-row.ensures.row file (c.loop-entry.invariant.calls.holds ∙ told) (before file (c.loop-entry.invariant.lanes file told))).1);
      count = c.in_ok-row.ensures.count;
      width = ap length same ∙ c.in_ok-row.ensures.lanes ∙ ap length c.deref_mut.ensures.value ∙ c.loop-entry.invariant.width;
    }

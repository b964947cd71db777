use Rattle.std.proofs.{Common.{◌≡◌, ◌+◌, ℕ, List, true, false, not, length, drop, is_some, refl, sym, ap, subst, ◌∙◌, arith}, lemmas.Result.{IfOk-at_ok}}
use Rattle.rio_host.proofs.ReadsLaws.{reads_join, reads_none}
use Rattle.rio_entry.specs.{declared.lane.Lane.{Lane}, Lanes.{AreLanes}, SavedRows.{row_there}}
use Rattle.rio_entry.proofs.{HeldRows.{rows_begin, rows_end, rows_fail, rows_more}, Left.{only_new, was_ok}, Walks.{lanes_later}}
use Rattle.rio_entry.proofs.saved.are_rows_there.Goals as goal

pub loop-entry-init : goal.loop-entry-init
loop-entry-init g c =
    let empty = was_ok _ c.empty_lanes.result c.map_err.result _ c.map_err.ensures.cases c.in_ok-lanes.was in
    record {
      calls = reads_none (g.H.Host.view c.args.host.now);
      calm = refl;
      there = λ file told. rows_begin (λ e. is_some (row_there file c.args.tree.now.classes.now c.args.tree.now.branches.now e)) c.args.entries;
      lanes = λ file told. IfOk-at_ok _ empty c.empty_lanes.ensures.empty file 0 c.args.tree.now.branches.now;
      width = IfOk-at_ok _ empty c.empty_lanes.ensures.count;
    }

pub returns-then-is_none-clause-there : goal.returns-then-is_none-clause-there
returns-then-is_none-clause-there g c = λ file told.
    let bs = c.args.tree.now.branches.now in
    let e = c.loop-entry.entry in
    let are = subst (λ (ls : List Lane). AreLanes file e bs ls) (sym c.deref_mut.ensures.value) (c.loop-entry.invariant.lanes file told) in
    let row = c.in_ok-row.ensures.row file (c.loop-entry.invariant.calls.holds ∙ told) are in
    let none : is_some (row_there file c.args.tree.now.classes.now bs e) ≡ false = ap is_some (sym row) ∙ c.is_none.ensures ∙ ap not c.if-is_none.true in
    rows_fail (λ k. is_some (row_there file c.args.tree.now.classes.now bs k)) c.args.entries e _ (omega arith) none (c.loop-entry.invariant.there file told)

pub loop-entry-preserved : goal.loop-entry-preserved
loop-entry-preserved g c =
    let bs = c.args.tree.now.branches.now in
    let e = c.loop-entry.entry in
    let size = sym c.deref_mut.ensures.len ∙ sym c.in_ok-row.ensures.lanes in
    let same = only_new c.read_saved_row.new.lanes (drop (length c.read_saved_row.new.lanes) c.loop-entry.lanes.items) c.loop-entry.lanes.len size in
    let before : (file : List ℕ) → AreLanes file e bs c.loop-entry.lanes.items → AreLanes file e bs c.deref_mut.result.now = λ file are. subst (λ (ls : List Lane). AreLanes file e bs ls) (sym c.deref_mut.ensures.value) are in
    record {
      calls = reads_join (g.met.H.Host.lawful c.loop-entry.host) c.loop-entry.invariant.calls c.in_ok-row.ensures.calls;
      calm = c.in_ok-row.ensures.cause ∙ c.loop-entry.invariant.calm;
      there = λ file told.
          let row = c.in_ok-row.ensures.row file (c.loop-entry.invariant.calls.holds ∙ told) (before file (c.loop-entry.invariant.lanes file told)) in
          let some : is_some (row_there file c.args.tree.now.classes.now bs e) ≡ true = ap is_some (sym row) ∙ c.is_none.ensures ∙ ap not c.if-is_none.false in
          rows_more (λ k. is_some (row_there file c.args.tree.now.classes.now bs k)) c.args.entries e _ (omega arith) some (c.loop-entry.invariant.there file told);
      lanes = λ file told.
          subst (λ (ls : List Lane). AreLanes file (e + 1) bs ls) (sym same) (lanes_later file e bs c.read_saved_row.new.lanes (c.in_ok-row.ensures.kept file (c.loop-entry.invariant.calls.holds ∙ told) (before file (c.loop-entry.invariant.lanes file told))));
      width = ap length same ∙ c.in_ok-row.ensures.lanes ∙ ap length c.deref_mut.ensures.value ∙ c.loop-entry.invariant.width;
    }

pub returns-clause-there : goal.returns-clause-there
returns-clause-there g c = λ file told.
    rows_end (λ k. is_some (row_there file c.args.tree.now.classes.now c.args.tree.now.branches.now k)) c.args.entries c.loop-entry.entry _ (omega arith) (c.loop-entry.invariant.there file told)

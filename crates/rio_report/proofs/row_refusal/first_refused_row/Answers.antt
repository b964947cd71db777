use Rattle.std.proofs.Common.{◌≡◌, ◌≤◌, ◌+◌, List, ℕ, length, drop, Option, refl, sym, ap, subst, ◌∙◌, arith, rules}
use Rattle.std.specs.{List.{range_with_len}, Option.{option_or}}
use Rattle.rio_host.proofs.ReadsLaws.{reads_join, reads_none}
use Rattle.rio_machine.specs.declared.refusal.Refusal.{Refusal}
use Rattle.rio_format.specs.declared.value.Value.{Value}
use Rattle.rio_entry.specs.{declared.lane.Lane.{Lane}, Lanes.{AreLanes}, BranchRows.{row_at}}
use Rattle.rio_entry.proofs.{Left.{only_new}, Walks.{lanes_later}}
use Rattle.rio_report.proofs.SeenLaws.{refused_end, refused_from, refused_next, told_first, told_none}
use Rattle.rio_report.proofs.row_refusal.first_refused_row.Goals as goal

pub loop-entry-init : goal.loop-entry-init
loop-entry-init g c = record {
  calls = reads_none (g.H.Host.view c.args.host.now);
  calm = refl;
  had = λ file told. refl;
  lanes = λ file told. c.in_ok-lanes.ensures.empty file 0 c.args.tree.now.branches.now;
  width = c.in_ok-lanes.ensures.count;
}

pub returns-then-is_some-clause-refusal : goal.returns-then-is_some-clause-refusal
returns-then-is_some-clause-refusal g c file told =
    let classes = c.args.tree.now.classes.now in
    let class = c.args.form.now.class in
    let bs = c.args.tree.now.branches.now in
    let e = c.loop-entry.entry in
    let row : ℕ → List Value = row_at file classes bs c.args.refusals.now in
    let are = subst (λ (ls : List Lane). AreLanes file e bs ls) (sym c.deref_mut.ensures.value) (c.loop-entry.invariant.lanes file told) in
    let one = c.in_ok-refusal.ensures.refusal file (c.loop-entry.invariant.calls.holds ∙ told) c.args.entries (omega arith) (c.requires.refusals file told) are in
    told_first c.in_ok-refusal.refusal (refused_from classes class row (drop (e + 1) (range_with_len 0 c.args.entries))) (sym c.is_some.ensures ∙ c.if-is_some.true)
    ∙ ap (λ (o : Option Refusal). option_or o (refused_from classes class row (drop (e + 1) (range_with_len 0 c.args.entries)))) one
    ∙ sym (refused_next classes class row c.args.entries e (omega arith))
    ∙ c.loop-entry.invariant.had file told

pub loop-entry-preserved : goal.loop-entry-preserved
loop-entry-preserved g c =
    let classes = c.args.tree.now.classes.now in
    let class = c.args.form.now.class in
    let bs = c.args.tree.now.branches.now in
    let e = c.loop-entry.entry in
    let size = sym c.deref_mut.ensures.len ∙ sym c.in_ok-refusal.ensures.lanes in
    let same = only_new c.row_refusal.new.lanes (drop (length c.row_refusal.new.lanes) c.loop-entry.lanes.items) c.loop-entry.lanes.len size in
    let before : (file : List ℕ) → AreLanes file e bs c.loop-entry.lanes.items → AreLanes file e bs c.deref_mut.result.now = λ file are. subst (λ (ls : List Lane). AreLanes file e bs ls) (sym c.deref_mut.ensures.value) are in
    record {
      calls = reads_join (g.met.H.Host.lawful c.loop-entry.host) c.loop-entry.invariant.calls c.in_ok-refusal.ensures.calls;
      calm = c.in_ok-refusal.ensures.cause ∙ c.loop-entry.invariant.calm;
      had = λ file told.
          let row : ℕ → List Value = row_at file classes bs c.args.refusals.now in
          let rest = refused_from classes class row (drop (e + 1) (range_with_len 0 c.args.entries)) in
          let one = c.in_ok-refusal.ensures.refusal file (c.loop-entry.invariant.calls.holds ∙ told) c.args.entries (omega arith) (c.requires.refusals file told) (before file (c.loop-entry.invariant.lanes file told)) in
          told_none c.in_ok-refusal.refusal rest (sym c.is_some.ensures ∙ c.if-is_some.false)
          ∙ ap (λ (o : Option Refusal). option_or o rest) one
          ∙ sym (refused_next classes class row c.args.entries e (omega arith))
          ∙ c.loop-entry.invariant.had file told;
      lanes = λ file told.
          subst (λ (ls : List Lane). AreLanes file (e + 1) bs ls) (sym same)
          (lanes_later file e bs c.row_refusal.new.lanes (c.in_ok-refusal.ensures.kept file (c.loop-entry.invariant.calls.holds ∙ told) (before file (c.loop-entry.invariant.lanes file told))));
      width = ap length same ∙ c.in_ok-refusal.ensures.lanes ∙ ap length c.deref_mut.ensures.value ∙ c.loop-entry.invariant.width;
    }

pub returns-clause-refusal : goal.returns-clause-refusal
returns-clause-refusal g c file told =
    let row : ℕ → List Value = row_at file c.args.tree.now.classes.now c.args.tree.now.branches.now c.args.refusals.now in
    sym (refused_end c.args.tree.now.classes.now c.args.form.now.class row c.args.entries c.loop-entry.entry (omega arith))
    ∙ c.loop-entry.invariant.had file told

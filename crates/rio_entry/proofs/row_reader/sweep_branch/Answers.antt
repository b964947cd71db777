use Rattle.std.proofs.{Common.{List, Option, None, sym, ap, ◌∙◌}, lemmas.Result.{IfOk-at_ok}}
use Rattle.rio_num.proofs.Cases.{none_from}
use Rattle.rio_tree.specs.declared.refusal.BranchRefusal.{BranchRefusal}
use Rattle.rio_format.specs.declared.value.Value.{Value}
use Rattle.rio_entry.specs.{BranchRows.{values_of_branch}, Sweeps.{with_branch}}
use Rattle.rio_entry.specs.Checked.{made_of}
use Rattle.rio_entry.proofs.{Left.{was_ok}, Walks.{lane_same}}
use Rattle.rio_entry.proofs.row_reader.sweep_branch.Goals as goal

pub returns-clause-row : goal.returns-clause-row
returns-clause-row g c file told lane =
    let place = c.args.place.now in
    let read = c.in_ok-found.ensures.values file told lane in
    let none = none_from c.refusal_before-refusal.result (sym c.is_some.ensures ∙ c.if-is_some.false) in
    let values = made_of place.made (values_of_branch file c.args.tree.now.classes.now place.entry place.before.now c.args.row.now.values place.branch.now) in (
      IfOk-at_ok _ (was_ok _ c.push_found.result c.map_err-2.result _ c.map_err-2.ensures.cases c.in_ok-map_err-2.was) c.push_found.ensures.row
          ∙ ap (λ (o : Option (List Value)). with_branch c.args.row.now None o) read.0
          ∙ ap (λ (r : Option BranchRefusal). with_branch c.args.row.now r values) (sym none ∙ c.refusal_before-refusal.ensures),
      lane_same file place.entry place.branch.now _ _ _ _ c.push_found.ensures.kept.0 c.push_found.ensures.kept.1 read.1,
    )

use Rattle.std.proofs.Common.{◌≡◌, List, false, sym, subst, ◌∙◌}
use Rattle.std.proofs.lemmas.Result.{IfOk-at_ok}
use Rattle.std.specs.List.{list_any}
use Rattle.rio_entry.specs.{Checked.{is_nothing, made_there}, declared.checked.Made.{Made}}
use Rattle.rio_entry.proofs.{CheckedRows.{counters_made}, Left.{was_ok}}
use Rattle.rio_entry.proofs.refusals.find_refusals.Goals as goal

pub check_entries-requires-clause-counters : goal.check_entries-requires-clause-counters
check_entries-requires-clause-counters g c = λ k b is.
    let made = IfOk-at_ok _ (was_ok _ c.counters_alone.result c.map_err.result _ c.map_err.ensures.cases c.in_ok-made.was) c.counters_alone.ensures in
    subst (λ (ms : List Made). list_any (λ j. is_nothing (made_there ms j)) b.counted_by ≡ false)
    (sym (c.as_slice.ensures.value ∙ made)) (counters_made c.args.tree.now.branches.now k b is)

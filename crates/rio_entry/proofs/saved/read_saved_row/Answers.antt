use Rattle.std.proofs.lemmas.Result.{IfOk-at_ok}
use Rattle.rio_entry.proofs.{HeldRows.{held_lanes}, Left.{was_ok}}
use Rattle.rio_entry.proofs.saved.read_saved_row.Goals as goal

pub returns-clause-row : goal.returns-clause-row
returns-clause-row g c file told are =
    IfOk-at_ok _ (was_ok _ c.held_row.result c.map_err.result _ c.map_err.ensures.cases c.in_ok-map_err.was) c.held_row.ensures file (c.in_ok-hold_all.ensures.held file told are)

pub returns-clause-kept : goal.returns-clause-kept
returns-clause-kept g c file told are =
    held_lanes file c.args.entry c.args.tree.now.branches.now c.hold_all.new.lanes (c.in_ok-hold_all.ensures.held file told are)

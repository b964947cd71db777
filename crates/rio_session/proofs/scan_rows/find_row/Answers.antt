use Rattle.std.proofs.{Common.{◌∙◌, arith}, lemmas.Option.{slice_get_within}}
use Rattle.rio_session.proofs.ScanEntries.{row_is_told}
use Rattle.rio_session.proofs.scan_rows.find_row.Goals as goal

pub returns-in-Ok-clause-row : goal.returns-in-Ok-clause-row
returns-in-Ok-clause-row g c = λ file links all told chain lanes are row there.
    let t = c.args.tree.now.filler.now in
    let e = c.args.entry in
    c.in-Ok.ensures
    ∙ row_is_told file links chain.chain.links_are c.args.tree.now.classes.now t all c.hold_all.new.lanes e row are there (c.in_ok-hold_all.ensures.lanes ∙ c.requires.lanes) (omega (arith, slice_get_within all e row there, are.count))
    (c.in_ok-hold_all.ensures.held file links told chain lanes)

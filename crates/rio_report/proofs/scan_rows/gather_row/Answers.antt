use Rattle.std.proofs.Common.{List, ℕ}
use Rattle.rio_report.specs.Scan.{row_line}
use Rattle.rio_entry.proofs.Left.{on_ok}
use Rattle.rio_report.proofs.{Gather.{line_read, reads_cut}, PiecesCauses.{cause_before}}
use Rattle.rio_report.proofs.scan_rows.gather_row.Goals as goal

pub returns-in-Ok-clause-kept : goal.returns-in-Ok-clause-kept
returns-in-Ok-clause-kept g c = on_ok c.hold_line.result (λ file told. c.in-Ok.ensures.kept file told (c.requires.held file told))

pub returns-in-Err-clause-kept : goal.returns-in-Err-clause-kept
returns-in-Err-clause-kept g c = rw c.say_before.ensures.fault tt

pub returns-in-Ok-clause-says : goal.returns-in-Ok-clause-says
returns-in-Ok-clause-says g c =
    line_read (g.H.Host.view c.args.host.now) (g.H.Host.view c.put_row_line.new.host) (g.H.Host.view c.hold_line.new.host) (g.met.H.Host.lawful c.args.host.now) (g.met.H.Host.lawful c.put_row_line.new.host)
    c.args.held.now.bytes c.put_row_line.new.text.bytes c.hold_line.new.held.bytes (λ file. row_line c.args.form.now file c.args.tree.now.classes.now c.args.tree.now.branches.now c.args.refusals.now c.args.entry) c.put_row_line.ensures.calls
    (λ file told. rw c.clear.ensures at (c.in-Ok.ensures.line file told c.args.entries c.requires.within (c.requires.refusals file told) (c.requires.held file told) (c.requires.had file told))) c.hold_line.result c.hold_line.ensures.says

pub returns-in-Err-clause-says : goal.returns-in-Err-clause-says
returns-in-Err-clause-says g c =
    let text_of : List ℕ → List ℕ = λ file. row_line c.args.form.now file c.args.tree.now.classes.now c.args.tree.now.branches.now c.args.refusals.now c.args.entry in
    rw c.say_before.ensures.fault (reads_cut (g.H.Host.view c.args.host.now) (g.H.Host.view c.put_row_line.new.host) (g.H.Host.view c.say_before.new.host) (g.met.H.Host.lawful c.args.host.now) (g.met.H.Host.lawful c.put_row_line.new.host)
    c.args.held.now.bytes text_of c.put_row_line.ensures.calls (c.say_before.ensures.says text_of))

pub returns-in-Err-clause-cause : goal.returns-in-Err-clause-cause
returns-in-Err-clause-cause g c =
    rw c.say_before.ensures.fault (cause_before (Unit {0}) (Unit {0}) (g.H.Host.view c.args.host.now) (g.H.Host.view c.put_row_line.new.host) (g.H.Host.view c.say_before.new.host) c.in-Err.fault c.in-Err.ensures.cause c.say_before.ensures.calm)

use Rattle.std.proofs.Common.{List, ℕ}
use Rattle.rio_report.specs.Dump.{stored_line}
use Rattle.rio_report.proofs.{Gather.{line_read, reads_cut}, PiecesCauses.{cause_before}}
use Rattle.rio_report.proofs.pieces.gather_key.Goals as goal

pub returns-in-Ok-clause-says : goal.returns-in-Ok-clause-says
returns-in-Ok-clause-says g c =
    line_read (g.H.Host.view c.args.host.now) (g.H.Host.view c.put_stored_line.new.host) (g.H.Host.view c.hold_line.new.host) (g.met.H.Host.lawful c.args.host.now) (g.met.H.Host.lawful c.put_stored_line.new.host)
    c.args.held.now.bytes c.put_stored_line.new.text.bytes c.hold_line.new.held.bytes (λ file. stored_line file c.args.classes.now c.args.key.now) c.put_stored_line.ensures.calls
    (λ file told. rw c.new-line.ensures at (c.in-Ok.ensures.line file told)) c.hold_line.result c.hold_line.ensures.says

pub returns-clause-says : goal.returns-clause-says
returns-clause-says g c =
    let text_of : List ℕ → List ℕ = λ file. stored_line file c.args.classes.now c.args.key.now in
    rw c.say_before.ensures.fault (reads_cut (g.H.Host.view c.args.host.now) (g.H.Host.view c.put_stored_line.new.host) (g.H.Host.view c.say_before.new.host) (g.met.H.Host.lawful c.args.host.now) (g.met.H.Host.lawful c.put_stored_line.new.host)
    c.args.held.now.bytes text_of c.put_stored_line.ensures.calls (c.say_before.ensures.says text_of))

pub returns-clause-cause : goal.returns-clause-cause
returns-clause-cause g c =
    rw c.say_before.ensures.fault (cause_before (Unit {0}) (Unit {0}) (g.H.Host.view c.args.host.now) (g.H.Host.view c.put_stored_line.new.host) (g.H.Host.view c.say_before.new.host) c.in-Err.fault c.in-Err.ensures.cause c.say_before.ensures.calm)

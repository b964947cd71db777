use Rattle.rio_session.specs.declared.fault.SessionFault.{SessionFault}
use Rattle.std.proofs.{Common.{Err, Result, ap, refl}, lemmas.Result.{err_from_is_err_and}}
use Rattle.rootio.proofs.Generating.{closed_and_said, closed_of, not_closed, room_of, stays_of, stops_of}
use Rattle.rootio.proofs.generate.generate_and_say.Goals as goal

abbrev err_of : SessionFault → Result (Unit {0}) SessionFault
err_of e = Err e

pub returns-in_err-do_from_and_close : goal.returns-in_err-do_from_and_close
returns-in_err-do_from_and_close g c =
    let p = err_from_is_err_and c.from_residual.result c.from_residual.ensures.1 in
    let e = c.in_err-do_from_and_close.ensures in
    let v1 = g.H.Host.view c.args.host.now in
    let v2 = g.H.Host.view c.do_from_and_close.new.host in
    let s = c.args.session in
    let commands = c.generated_script-commands.result in
    let entries = c.args.entries in
    let same = c.generated_script-commands.ensures in
    let fault = c.in_err-do_from_and_close.field-0.0 in
    rw (p.1, p.2)
    (not_closed v1 v2 s entries c.requires.ready (g.met.H.Host.lawful c.args.host.now) (g.met.H.Host.lawful c.do_from_and_close.new.host) e.told e.said
    (stops_of v1 v2 s commands entries same e.stops) (room_of v1 v2 s commands entries same e.room)
    fault (stays_of v1 v2 s commands entries same (err_of fault) e.unclosed) e.cause (λ none. e.no_say_fault refl (ap err_of none)))

pub returns : goal.returns
returns g c =
    let e = c.in_ok-do_from_and_close.ensures in
    let v1 = g.H.Host.view c.args.host.now in
    let v2 = g.H.Host.view c.do_from_and_close.new.host in
    let s = c.args.session in
    let commands = c.generated_script-commands.result in
    let entries = c.args.entries in
    let same = c.generated_script-commands.ensures in
    closed_and_said v1 v2 s entries c.requires.ready (g.met.H.Host.lawful c.args.host.now) (g.met.H.Host.lawful c.do_from_and_close.new.host) e.told e.said
    (stops_of v1 v2 s commands entries same e.stops) (room_of v1 v2 s commands entries same e.room) (closed_of v1 v2 s commands entries same e.done) e.cause
    (g.H.Host.view c.say_summary.new.host) (g.met.H.Host.lawful c.say_summary.new.host) c.say_summary.result c.say_summary.ensures

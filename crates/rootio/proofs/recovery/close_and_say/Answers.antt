use Rattle.std.proofs.{Common.{refl}, lemmas.Result.{err_from_is_err_and}}
use Rattle.rootio.proofs.Recoveries.{not_closed, said_all, said_part}
use Rattle.rootio.proofs.recovery.close_and_say.Goals as goal

pub returns-in_err-close : goal.returns-in_err-close
returns-in_err-close g c =
    let p = err_from_is_err_and c.from_residual.result c.from_residual.ensures.1 in
    let e = c.in_err-close.ensures in
    rw (p.1, p.2)
    (not_closed (g.H.Host.view c.args.host.now) (g.H.Host.view c.close.new.host) c.args.session c.args.lines.now c.requires.ready
    (g.met.H.Host.lawful c.args.host.now) (g.met.H.Host.lawful c.close.new.host) e.any_moment e.writes.told e.writes.said c.in_err-close.field-0.0 e.no_memory e.cause)

pub returns-in-Ok : goal.returns-in-Ok
returns-in-Ok g c =
    let e = c.in_ok-close.ensures in
    let s = c.in-Ok.ensures in
    said_all (g.H.Host.view c.args.host.now) (g.H.Host.view c.close.new.host) c.args.session c.args.lines.now c.requires.ready
    (g.met.H.Host.lawful c.args.host.now) (g.met.H.Host.lawful c.close.new.host) e.any_moment e.writes.told e.writes.said
    (g.H.Host.view c.say.new.self) (g.met.H.Host.lawful c.say.new.self) e.quiet e.closed e.written e.records e.cause s.time s.holds s.disk_faults s.said (s.counted refl)

pub returns-in-Err : goal.returns-in-Err
returns-in-Err g c =
    let e = c.in_ok-close.ensures in
    let s = c.in-Err.ensures in
    said_part (g.H.Host.view c.args.host.now) (g.H.Host.view c.close.new.host) c.args.session c.args.lines.now c.requires.ready
    (g.met.H.Host.lawful c.args.host.now) (g.met.H.Host.lawful c.close.new.host) e.any_moment e.writes.told e.writes.said
    (g.H.Host.view c.say.new.self) (g.met.H.Host.lawful c.say.new.self) e.quiet e.closed e.written e.records e.cause s.time s.holds s.disk_faults s.failed (s.cause refl)

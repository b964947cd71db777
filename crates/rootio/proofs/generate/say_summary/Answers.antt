use Rattle.std.proofs.{Common.{refl}, lemmas.Result.{err_from_is_err_and}}
use Rattle.rootio.proofs.SummarySaid.{not_made, said_all, said_part}
use Rattle.rootio.proofs.generate.say_summary.Goals as goal

pub returns-in_err-line : goal.returns-in_err-line
returns-in_err-line g c =
    let p = err_from_is_err_and c.from_residual.result c.from_residual.ensures.1 in
    rw (p.1, p.2)
    (not_made c.args.entries (g.H.Host.view c.args.host.now) (g.H.Host.view c.summary_line.new.host) (g.met.H.Host.lawful c.args.host.now) c.in_err-line.ensures.calls c.in_err-line.field-0.0 c.in_err-line.ensures.cause)

pub returns-in-Ok : goal.returns-in-Ok
returns-in-Ok g c =
    let s = c.in-Ok.ensures in
    said_all c.args.entries (g.H.Host.view c.args.host.now) (g.H.Host.view c.summary_line.new.host) (g.H.Host.view c.say.new.self) (g.met.H.Host.lawful c.summary_line.new.host)
    c.in_ok-line.ensures.calls c.in_ok-line.ensures.cause c.in_ok-line.line.bytes c.as_slice.result.now c.as_slice.ensures c.in_ok-line.ensures.line s.time s.holds s.disk_faults s.said (s.counted refl)

pub returns : goal.returns
returns g c =
    let s = c.in-Err.ensures in
    said_part c.args.entries (g.H.Host.view c.args.host.now) (g.H.Host.view c.summary_line.new.host) (g.H.Host.view c.say.new.self) (g.met.H.Host.lawful c.summary_line.new.host)
    c.in_ok-line.ensures.calls c.in_ok-line.ensures.cause c.in_ok-line.line.bytes c.as_slice.result.now c.as_slice.ensures c.in_ok-line.ensures.line s.time s.holds s.disk_faults s.failed (s.cause refl)

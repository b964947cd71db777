use Rattle.std.proofs.Common.{◌∙◌, subst}
use Rattle.rio_chain.specs.Walks.{Told}
use Rattle.rio_session.specs.Opening.{BeginsOn, IsBegun}
use Rattle.rootio.specs.{Target.{TargetFile}, declared.words.Work.TheVariants.{Run}}
use Rattle.rio_session.specs.declared.replies.Replies.TheVariants.{Printed}
use Rattle.rootio.proofs.{Opening.{not_opened, nothing_done, opened}, Scripts.{its_records, its_run, run_plain, run_there}, Unclosed.{ends_unclosed}}
use Rattle.rootio.proofs.script.run_script.Goals as goal

pub returns-in-Err : goal.returns-in-Err
returns-in-Err g c = nothing_done (Run c.args.target.now) c.args.script.now (g.H.Host.view c.args.host.now)

pub returns-in-Ok-open : goal.returns-in-Ok-open
returns-in-Ok-open g c =
    let e = c.in-Ok-open.ensures in
    let s = c.in-Ok-open.session in
    let v0 = g.H.Host.view c.args.host.now in
    let v1 = g.H.Host.view c.open.new.host in
    let on = subst (λ (t : TargetFile). Told v0 (λ file. BeginsOn t.name t.datime file v1 s)) c.target.view_is e.begins in
    let begun = subst (λ (t : TargetFile). IsBegun t.datime s) c.target.view_is e.begun in
    let work = Run c.args.target.now in
    let v2 = g.H.Host.view c.do_and_close.new.host in
    let run = run_there Printed s c.as_slice.result.now in
    let are = c.as_slice.ensures ∙ c.in-Ok.ensures in
    let plain = run_plain c.args.target.now in
    rw c.status_of_session.ensures
    (opened work c.args.script.now v0 v1 v2 s run c.do_and_close.result tt e.any_moment e.stands on begun e.why_not e.told e.said e.cause
    (its_run work plain c.args.script.now v0 v1 s c.as_slice.result.now begun are)
    (its_records work plain c.args.script.now v0 v1 s c.as_slice.result.now begun are)
    c.do_and_close.ensures.stops c.do_and_close.ensures.done
    (λ file m text st. ends_unclosed work (run st.state.links m) file text v0 v2 c.do_and_close.result (c.do_and_close.ensures.unclosed m text st))
    c.do_and_close.ensures.told c.do_and_close.ensures.said c.do_and_close.ensures.room c.do_and_close.ensures.cause
    (g.met.H.Host.lawful c.args.host.now) (g.met.H.Host.lawful c.do_and_close.new.host))

pub returns : goal.returns
returns g c =
    let e = c.in-Err-open.ensures in
    rw c.status_of_open.ensures
    (not_opened (Run c.args.target.now) c.args.script.now (g.H.Host.view c.args.host.now) (g.H.Host.view c.open.new.host) c.in-Err-open.fault tt e.any_moment e.unclosed e.why_not e.spared e.untouched
    e.told e.said e.cause (g.met.H.Host.lawful c.args.host.now) (g.met.H.Host.lawful c.open.new.host))

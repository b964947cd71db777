use Rattle.std.proofs.Common.{[], subst}
use Rattle.rio_chain.specs.Walks.{Told}
use Rattle.rio_session.specs.Opening.{BeginsOn, IsBegun}
use Rattle.rootio.specs.{Target.{TargetFile}, declared.words.Work.TheVariants.{Generate}}
use Rattle.rootio.proofs.{Generating.{ends_generated, generated_there, its_records, its_run}, Opening.{not_opened, opened}}
use Rattle.rootio.proofs.generate.generate_new.Goals as goal

pub returns-in-Ok : goal.returns-in-Ok
returns-in-Ok g c =
    let e = c.in-Ok.ensures in
    let s = c.in-Ok.session in
    let v0 = g.H.Host.view c.args.host.now in
    let v1 = g.H.Host.view c.open.new.host in
    let v2 = g.H.Host.view c.generate_and_say.new.host in
    let on = subst (λ (t : TargetFile). Told v0 (λ file. BeginsOn t.name t.datime file v1 s)) c.target.view_is e.begins in
    let begun = subst (λ (t : TargetFile). IsBegun t.datime s) c.target.view_is e.begun in
    let ends = c.generate_and_say.ensures in
    let target = c.args.target.now in
    let entries = c.args.entries in
    rw c.status_of_session.ensures
    (opened (Generate target entries) [] v0 v1 v2 s (generated_there s entries) c.generate_and_say.result c.requires.unborn e.any_moment e.stands on begun e.why_not e.told e.said e.cause
    (its_run target entries v0 v1 s begun c.requires.unborn) (its_records target entries v0 v1 s begun c.requires.unborn) ends.stops ends.done
    (λ file m text st. ends_generated target entries (generated_there s entries st.state.links m) file text v0 v2 c.generate_and_say.result (ends.unclosed m text st))
    ends.told ends.said ends.room ends.cause
    (g.met.H.Host.lawful c.args.host.now) (g.met.H.Host.lawful c.generate_and_say.new.host))

pub returns-in-Err : goal.returns-in-Err
returns-in-Err g c =
    let e = c.in-Err.ensures in
    rw c.status_of_open.ensures
    (not_opened (Generate c.args.target.now c.args.entries) [] (g.H.Host.view c.args.host.now) (g.H.Host.view c.open.new.host) c.in-Err.fault c.requires.unborn e.any_moment e.unclosed e.why_not e.spared e.untouched
    e.told e.said e.cause (g.met.H.Host.lawful c.args.host.now) (g.met.H.Host.lawful c.open.new.host))

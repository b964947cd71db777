use Rattle.std.proofs.Common.{[], subst}
use Rattle.rio_chain.specs.Walks.{Told}
use Rattle.rio_session.specs.Opening.{BeginsOn, IsBegun}
use Rattle.rootio.specs.{Target.{TargetFile}, declared.words.Work.TheVariants.{Recover}}
use Rattle.rootio.proofs.{Opening.{not_opened, opened}, Recoveries.{its_listing, its_records, listing_finds_room, listing_there}, Unclosed.{ends_unclosed}}
use Rattle.rootio.proofs.recovery.recover_file.Goals as goal

pub returns-in-Ok : goal.returns-in-Ok
returns-in-Ok g c =
    let e = c.in-Ok.ensures in
    let s = c.in-Ok.session in
    let v0 = g.H.Host.view c.args.host.now in
    let v1 = g.H.Host.view c.open.new.host in
    let v2 = g.H.Host.view c.close_and_list.new.host in
    let on = subst (λ (t : TargetFile). Told v0 (λ file. BeginsOn t.name t.datime file v1 s)) c.target.view_is e.begins in
    let begun = subst (λ (t : TargetFile). IsBegun t.datime s) c.target.view_is e.begun in
    let ends = c.close_and_list.ensures in
    rw c.status_of_session.ensures
    (opened (Recover c.args.target.now) [] v0 v1 v2 s (listing_there s) c.close_and_list.result tt e.any_moment e.stands on begun e.why_not e.told e.said e.cause
    (its_listing c.args.target.now v0 v1 s begun) (its_records c.args.target.now v0 v1 s begun) ends.stops ends.done
    (λ file m text st. ends_unclosed (Recover c.args.target.now) (listing_there s st.state.links m) file text v0 v2 c.close_and_list.result (ends.unclosed m text st))
    ends.told ends.said
    (λ m text st costs. listing_finds_room s st.state.links m text v2) ends.cause
    (g.met.H.Host.lawful c.args.host.now) (g.met.H.Host.lawful c.close_and_list.new.host))

pub returns-in-Err : goal.returns-in-Err
returns-in-Err g c =
    let e = c.in-Err.ensures in
    rw c.status_of_open.ensures
    (not_opened (Recover c.args.target.now) [] (g.H.Host.view c.args.host.now) (g.H.Host.view c.open.new.host) c.in-Err.fault tt e.any_moment e.unclosed e.why_not e.spared e.untouched
    e.told e.said e.cause (g.met.H.Host.lawful c.args.host.now) (g.met.H.Host.lawful c.open.new.host))

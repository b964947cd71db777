use Rattle.std.proofs.Common.{IfSome, List, length, Option, refl, sym, ap, subst}
use Rattle.rio_key.specs.declared.head.KeyHead.{KeyHead}
use Rattle.rio_chain.specs.{Chains.{ChainState, HasRecordSegment}, declared.segment.Segment.{Segment}}
use Rattle.rio_session.specs.Kept.{released_link}
use Rattle.rio_session.proofs.ReplaceMoments.{all_is_done, both_are_done, both_in_time, put_in_time, record_stays}
use Rattle.rio_session.proofs.replace.put_and_release.Goals as goal

pub returns-in_err-put_record-clause-any_moment : goal.returns-in_err-put_record-clause-any_moment
returns-in_err-put_record-clause-any_moment g c p s own changes =
    put_in_time c.args.place c.args.body.now.bytes (released_link c.args.before.now) p s c.args.chain.now.segments own changes (g.H.Host.view c.args.host.now) (g.H.Host.view c.put_record.new.host)
    c.put_record.ensures.any_moment c.put_record.ensures.writes

pub release-requires-clause-record : goal.release-requires-clause-record
release-requires-clause-record g c =
    let there = subst (λ (o : Option KeyHead). IfSome o (λ h. HasRecordSegment c.args.chain.now.segments h.seek)) c.in-Some.is c.requires.there in
    subst (λ (ss : List Segment). HasRecordSegment ss c.in-Some.head.seek) (sym (ap (λ (x : ChainState). x.segments) c.in_ok-put_record.ensures.chain))
    (record_stays c.args.place (length c.args.body.now.bytes) c.in-Some.head.seek c.args.chain.now.segments there)

pub returns-in-Some-clause-any_moment : goal.returns-in-Some-clause-any_moment
returns-in-Some-clause-any_moment g c p s own changes =
    let old = g.H.Host.view c.args.host.now in
    let mid = g.H.Host.view c.put_record.new.host in
    both_in_time c.args.place c.args.body.now.bytes c.args.before.now c.in-Some.head c.in-Some.is c.args.chain.now.segments c.put_record.new.self.segments c.release.new.self.segments old mid (g.H.Host.view c.release.new.host)
    c.put_record.ensures.any_moment c.put_record.ensures.writes c.in_ok-put_record.ensures.holds (c.in_ok-put_record.ensures.cause.counted refl) c.release.ensures.any_moment c.release.ensures.writes p s own changes

pub returns-in-Some-clause-done : goal.returns-in-Some-clause-done
returns-in-Some-clause-done g c =
    let old = g.H.Host.view c.args.host.now in
    let mid = g.H.Host.view c.put_record.new.host in
    both_are_done c.args.place c.args.body.now.bytes c.args.before.now c.in-Some.head c.in-Some.is c.args.chain.now.segments c.put_record.new.self.segments c.release.new.self.segments old mid (g.H.Host.view c.release.new.host)
    c.put_record.ensures.any_moment c.put_record.ensures.writes c.in_ok-put_record.ensures.holds (c.in_ok-put_record.ensures.cause.counted refl) c.release.ensures.any_moment c.release.ensures.writes
    c.release.result c.release.ensures.holds c.release.ensures.cause

pub returns-in-None-clause-any_moment : goal.returns-in-None-clause-any_moment
returns-in-None-clause-any_moment g c p s own changes =
    put_in_time c.args.place c.args.body.now.bytes (released_link c.args.before.now) p s c.args.chain.now.segments own changes (g.H.Host.view c.args.host.now) (g.H.Host.view c.put_record.new.host)
    c.put_record.ensures.any_moment c.put_record.ensures.writes

pub returns-in-None-clause-done : goal.returns-in-None-clause-done
returns-in-None-clause-done g c p s own changes =
    all_is_done c.args.place c.args.body.now.bytes (released_link c.args.before.now) p s c.args.chain.now.segments own changes (g.H.Host.view c.args.host.now) (g.H.Host.view c.put_record.new.host)
    c.put_record.ensures.any_moment c.put_record.ensures.writes c.put_record.new.self.segments (ap released_link c.in-None.is) c.in_ok-put_record.ensures.holds (c.in_ok-put_record.ensures.cause.counted refl)

use Rattle.std.proofs.Common.{◌∙◌, arith, refl}
use Rattle.rio_session.proofs.ReleasesMade.{all_released, all_segments, later, record_there, release_in_time, released_in_time, released_more, releasing_begins, writes_more}
use Rattle.rio_session.proofs.release.release_all.Goals as goal

pub loop-place-init : goal.loop-place-init
loop-place-init g c = releasing_begins (g.H.Host.view c.args.host.now) c.args.chain.now c.args.places.now c.requires.quiet c.requires.holds

pub release-requires-clause-record : goal.release-requires-clause-record
release-requires-clause-record g c =
    record_there c.args.places.now c.args.chain.now.segments c.requires.records c.loop-place.place-index c.loop-place-test.true c.loop-place.chain.segments c.loop-place.invariant.segments

pub release-requires-clause-later : goal.release-requires-clause-later
release-requires-clause-later g c = later c.args.places.now c.args.chain.now.segments c.requires.records c.loop-place.place-index c.loop-place-test.true

pub release-requires-clause-fresh : goal.release-requires-clause-fresh
release-requires-clause-fresh g c = c.loop-place.invariant.spent ∙ c.requires.fresh

pub release-requires-clause-room : goal.release-requires-clause-room
release-requires-clause-room g c = omega (arith, c.loop-place.invariant.spare, c.requires.room, c.loop-place-test.true)

pub returns-in_err-release-clause-any_moment : goal.returns-in_err-release-clause-any_moment
returns-in_err-release-clause-any_moment g c =
    release_in_time (g.H.Host.view c.args.host.now) (g.H.Host.view c.loop-place.host) c.args.chain.now c.args.places.now c.loop-place.place-index c.loop-place.chain c.loop-place.invariant c.loop-place-test.true
    (g.H.Host.view c.release.new.host) c.release.ensures.any_moment c.release.ensures.writes

pub returns-in_err-release-clause-writes : goal.returns-in_err-release-clause-writes
returns-in_err-release-clause-writes g c =
    writes_more (g.H.Host.view c.args.host.now) (g.H.Host.view c.loop-place.host) c.args.chain.now c.args.places.now c.loop-place.place-index c.loop-place.chain c.loop-place.invariant c.loop-place-test.true
    (g.H.Host.view c.release.new.host) c.release.ensures.any_moment c.release.ensures.writes

pub loop-place-preserved : goal.loop-place-preserved
loop-place-preserved g c =
    released_more (g.H.Host.view c.args.host.now) (g.H.Host.view c.loop-place.host) c.args.chain.now c.args.places.now c.loop-place.place-index c.loop-place.chain c.loop-place.invariant c.loop-place-test.true
    (g.H.Host.view c.release.new.host) c.release.ensures.any_moment c.release.ensures.writes c.release.new.self c.in_ok-release.ensures.holds c.in_ok-release.ensures.quiet (c.in_ok-release.ensures.cause.counted refl) c.in_ok-release.ensures.chain

pub returns-clause-done : goal.returns-clause-done
returns-clause-done g c =
    all_released (g.H.Host.view c.args.host.now) (g.H.Host.view c.loop-place.host) c.args.chain.now c.args.places.now c.loop-place.place-index c.loop-place.chain c.loop-place.invariant c.loop-place-test.false

pub returns-clause-any_moment : goal.returns-clause-any_moment
returns-clause-any_moment g c =
    released_in_time (g.H.Host.view c.args.host.now) (g.H.Host.view c.loop-place.host) c.args.chain.now c.args.places.now c.loop-place.place-index c.loop-place.chain c.loop-place.invariant c.loop-place-test.false

pub returns-clause-chain : goal.returns-clause-chain
returns-clause-chain g c =
    all_segments (g.H.Host.view c.args.host.now) (g.H.Host.view c.loop-place.host) c.args.chain.now c.args.places.now c.loop-place.place-index c.loop-place.chain c.loop-place.invariant c.loop-place-test.false

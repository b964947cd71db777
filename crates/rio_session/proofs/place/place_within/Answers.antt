use Rattle.std.proofs.Common.{refl}
use Rattle.rio_session.proofs.Places.{has_room, no_room, placed_end}
use Rattle.rio_session.proofs.place.place_within.Goals as goal

pub returns-in-None-clause-full : goal.returns-in-None-clause-full
returns-in-None-clause-full c =
    (no_room c.args.chain.now.segments c.args.n c.args.need c.saturating_sub.result c.saturating_sub.ensures c.in-None.ensures.exact, c.end.ensures.end, refl)

pub returns-in-Some-clause-room : goal.returns-in-Some-clause-room
returns-in-Some-clause-room c = has_room c.args.chain.now.segments c.args.n c.args.need c.saturating_sub.result c.saturating_sub.ensures c.in-Some.ensures.exact

pub returns-in-Some-clause-fits : goal.returns-in-Some-clause-fits
returns-in-Some-clause-fits c =
    placed_end c.args.chain.now.segments c.args.n c.args.need c.in-Some.ensures.shape c.requires.some c.requires.aligned
    (has_room c.args.chain.now.segments c.args.n c.args.need c.saturating_sub.result c.saturating_sub.ensures c.in-Some.ensures.exact)

use Rattle.std.proofs.Common.{arith}
use Rattle.rio_recover.proofs.PlacesNoted.{noted_baskets, noted_ends, noted_next}
use Rattle.rio_recover.proofs.named.NamedPlaces.note_baskets.Goals as goal

pub returns-then-not-branch : goal.returns-then-not-branch
returns-then-not-branch c =
    noted_ends c.args.baskets.now c.loop-at.at-index _ c.args.self.now c.loop-at.self (record { places = c.insert.new.self }) c.in_ok-insert.field-0 c.loop-at-test.true c.in_ok-insert.ensures.added c.in_ok-insert.ensures.updates.0
    c.loop-at.invariant c.if-not-branch.true

pub loop-at-preserved : goal.loop-at-preserved
loop-at-preserved c =
    noted_next c.args.baskets.now c.loop-at.at-index _ c.args.self.now c.loop-at.self (record { places = c.insert.new.self }) c.in_ok-insert.field-0 c.loop-at-test.true c.in_ok-insert.ensures.added c.in_ok-insert.ensures.updates.0
    c.loop-at.invariant c.if-not-branch.false

pub returns : goal.returns
returns c = noted_baskets c.args.baskets.now c.loop-at.at-index c.args.self.now c.loop-at.self c.loop-at-test.false c.loop-at.invariant

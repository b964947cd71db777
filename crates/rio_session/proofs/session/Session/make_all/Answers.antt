use Rattle.std.proofs.Common.{◌+◌, ℕ, ap, arith, subst, sym}
use Rattle.rio_session.specs.Puts.{IsStored}
use Rattle.rio_session.proofs.BatchMade.{made_begins, made_ends, made_more, rest_long, short_words}
use Rattle.rio_session.proofs.session.Session.make_all.Goals as goal

pub records_length-room-requires-clause-short : goal.records_length-room-requires-clause-short
records_length-room-requires-clause-short c = short_words c.args.self.now.classes c.args.objects.now c.requires.stored

pub records_length-room-requires-clause-low : goal.records_length-room-requires-clause-low
records_length-room-requires-clause-low c = let low = c.requires.low in omega (arith, low)

pub overflow_add-room : goal.overflow_add-room
overflow_add-room c = let low = c.requires.low in omega (arith, low, c.records_length-room.ensures)

pub loop-object-init : goal.loop-object-init
loop-object-init c =
    made_begins c.args.self.now c.args.place c.args.objects.now _ c.in_ok-batch.batch (ap (λ (n : ℕ). n + 4) c.records_length-room.ensures) c.in_ok-batch.ensures

pub make-requires-clause-stored : goal.make-requires-clause-stored
make-requires-clause-stored c =
    subst (IsStored c.args.self.now.classes) (sym c.object-item.is) (c.requires.stored c.loop-object.object-index c.object-item.result c.loop-object-test.true)

pub make-requires-clause-low : goal.make-requires-clause-low
make-requires-clause-low c =
    let ends = c.loop-object.invariant.ends in
    let low = c.requires.low in
    omega (arith, ends, low)

pub overflow_add-at : goal.overflow_add-at
overflow_add-at c =
    let ends = c.loop-object.invariant.ends in
    let low = c.requires.low in
    let rest = rest_long c.args.self.now c.args.place c.args.objects.now c.loop-object.object-index c.object-item.result c.loop-object-test.true c.object-item.is in
    let long = c.in_ok-made.ensures.long in
    omega (arith, ends, low, rest, long, c.len.ensures)

pub loop-object-preserved : goal.loop-object-preserved
loop-object-preserved c =
    let loop = c.loop-object in
    made_more c.args.self.now c.args.place c.args.objects.now loop.object-index loop.at _ c.object-item.result loop.batch c.add.new.self c.in_ok-made.made c.loop-object-test.true c.object-item.is loop.invariant
    c.in_ok-made.ensures c.in_ok-add.ensures (ap (λ (n : ℕ). loop.at + n) c.len.ensures)

pub returns : goal.returns
returns c =
    let loop = c.loop-object in
    made_ends c.args.self.now c.args.place c.args.objects.now loop.object-index loop.at loop.batch (omega (arith, c.loop-object-test.false)) c.requires.soon c.requires.some c.requires.stored c.requires.low loop.invariant

use Rattle.std.proofs.Common.{◌≡◌, ◌-◌, ℕ, List, length, refl, sym, ap, ◌∙◌, arith}
use Rattle.std.proofs.lemmas.List.{drop_all}
use Rattle.rio_chain.specs.Placing.{with_segments}
use Rattle.rio_chain.proofs.PutsNoted.{next_at, room_for_all, segments_next}
use Rattle.rio_chain.proofs.kept.Chain.note_all.Goals as goal

pub loop-n-init : goal.loop-n-init
loop-n-init c = record {
  segments = refl;
  spare = omega arith;
  spent = refl;
  noting = record {
    shape = c.end-end.ensures.shape;
    are = c.requires.lengths;
    room = room_for_all c.args.self.now.segments c.args.place c.args.lengths.now c.requires.space;
    low = c.requires.low;
  };
}

pub note_at-requires-clause-free : goal.note_at-requires-clause-free
note_at-requires-clause-free c = (next_at c.loop-n.self.segments c.loop-n.at c.args.lengths.now c.loop-n.n-index c.loop-n-test.true c.loop-n.invariant.noting).free

pub note_at-requires-clause-low : goal.note_at-requires-clause-low
note_at-requires-clause-low c = (next_at c.loop-n.self.segments c.loop-n.at c.args.lengths.now c.loop-n.n-index c.loop-n-test.true c.loop-n.invariant.noting).low

pub note_at-requires-clause-aligned : goal.note_at-requires-clause-aligned
note_at-requires-clause-aligned c = (next_at c.loop-n.self.segments c.loop-n.at c.args.lengths.now c.loop-n.n-index c.loop-n-test.true c.loop-n.invariant.noting).aligned

pub note_at-requires-clause-some : goal.note_at-requires-clause-some
note_at-requires-clause-some c = (next_at c.loop-n.self.segments c.loop-n.at c.args.lengths.now c.loop-n.n-index c.loop-n-test.true c.loop-n.invariant.noting).some

pub note_at-requires-clause-room : goal.note_at-requires-clause-room
note_at-requires-clause-room c = omega (arith, c.loop-n.invariant.spare, c.loop-n-test.true, c.requires.room)

pub overflow_add-at : goal.overflow_add-at
overflow_add-at c =
    let next = next_at c.loop-n.self.segments c.loop-n.at c.args.lengths.now c.loop-n.n-index c.loop-n-test.true c.loop-n.invariant.noting in
    omega (arith, next.within)

pub loop-n-preserved : goal.loop-n-preserved
loop-n-preserved c =
    let loop = c.loop-n in
    let next = next_at loop.self.segments loop.at c.args.lengths.now loop.n-index c.loop-n-test.true loop.invariant.noting in
    let more = segments_next loop.self.segments loop.at c.args.lengths.now loop.n-index c.loop-n-test.true in
    rw c.note_at.ensures (record {
      segments = sym more ∙ loop.invariant.segments;
      spare = omega (arith, loop.invariant.spare, c.loop-n-test.true, c.requires.room);
      spent = loop.invariant.spent;
      noting = next.left;
    })

pub returns : goal.returns
returns c =
    let loop = c.loop-n in
    let none = drop_all loop.n-index c.args.lengths.now (omega (arith, c.loop-n-test.false)) in
    let same = ap (λ (ls : List ℕ). with_segments loop.at ls loop.self.segments) (sym none) ∙ loop.invariant.segments in
    let spare : loop.self.spare ≡ c.args.self.now.spare - length c.args.lengths.now = omega (arith, loop.invariant.spare, c.loop-n-test.false, loop.auto.n-index-end) in
    λ i. record { segments = same i; spare = spare i; spent = loop.invariant.spent i }

use Rattle.std.proofs.Common.{◌<◌, ◌∙◌, length, sym, arith}
use Rattle.rio_session.proofs.NotedLaws.{next_place, not_noted, noted_one, noting_begins, noting_ends}
use Rattle.rio_session.proofs.open_trees.note_written.Goals.{then-is_flagged, else-is_flagged}
use Rattle.rio_session.proofs.open_trees.note_written.Goals as goal

pub loop-k-init : goal.loop-k-init
loop-k-init c = noting_begins c.args.ats.now c.args.flags c.args.filler.now c.requires

pub overflow_add-next : goal.overflow_add-next
overflow_add-next c = omega (arith, c.loop-k.invariant.early, c.loop-k-test.true, c.width-k-end.ensures)

pub note_one-requires : goal.note_one-requires
note_one-requires c =
    let l = c.loop-k in
    let lt : l.k < length l.filler.branches = omega (arith, c.loop-k-test.true, l.invariant.long, c.width-k-end.ensures) in
    next_place c.args.ats.now c.args.flags c.args.filler.now l.k l.next l.filler l.invariant lt (sym c.is_flagged.ensures ∙ c.if-is_flagged.true)

pub loop-k-preserved : goal.loop-k-preserved
loop-k-preserved c =
    let l = c.loop-k in
    let lt : l.k < length l.filler.branches = omega (arith, c.loop-k-test.true, l.invariant.long, c.width-k-end.ensures) in
    elim c.if-is_flagged.branch [
      | then-is_flagged w ↦
          rw (w.next-is, w.filler-is) (noted_one c.args.ats.now c.args.flags c.args.filler.now l.k l.next l.filler l.invariant lt (sym c.is_flagged.ensures ∙ w.if-is_flagged.true) w.note_one.new.filler w.note_one.ensures)
      | else-is_flagged w ↦
          rw (w.next-is, w.filler-is) (not_noted c.args.ats.now c.args.flags c.args.filler.now l.k l.next l.filler l.invariant lt (sym c.is_flagged.ensures ∙ w.if-is_flagged.false))
    ]

pub returns : goal.returns
returns c =
    let l = c.loop-k in
    noting_ends c.args.ats.now c.args.flags c.args.filler.now l.k l.next l.filler l.invariant (omega (arith, c.loop-k-test.false, l.invariant.long, c.width-k-end.ensures))

use Rattle.std.proofs.Common.{length, arith, rules}
use Rattle.std.proofs.lemmas.{Iterator.Adapters.{YieldsList-from_vec}, Iterator.Consumers.{YieldsList-end, YieldsList-turn}, List.{length_push}}
use Rattle.rio_session.proofs.ClosingPlans.{all_noted, can_note, nothing_noted, one_noted, steps_noted}
use Rattle.rio_session.proofs.closing.note_steps.Goals as goal

pub loop-step-init : goal.loop-step-init
loop-step-init c = nothing_noted c.args.planned.now.chain c.reserve.new.self c.args.planned.now.steps.items c.args.steps.items _ c.requires.run c.requires.fresh c.in_ok-reserve.ensures.ok (search rules)

pub note_step-requires-clause-can : goal.note_step-requires-clause-can
note_step-requires-clause-can c =
    let l = c.loop-step in
    let t = YieldsList-turn (YieldsList-from_vec c.args.steps.items (search rules) (search rules)) l.yielded _ l.yielded_by _ c.next.new.self c.in-Some.step c.in-Some.is c.next.ensures.steps in
    can_note c.args.planned.now.chain.segments c.args.planned.now.steps.items c.args.steps.items (length l.yielded) l.planned.chain l.planned.steps.items l.invariant c.in-Some.step t.0 t.1

pub note_step-requires-clause-fresh : goal.note_step-requires-clause-fresh
note_step-requires-clause-fresh c = c.loop-step.invariant.fresh

pub note_step-requires-clause-room : goal.note_step-requires-clause-room
note_step-requires-clause-room c =
    let l = c.loop-step in
    let t = YieldsList-turn (YieldsList-from_vec c.args.steps.items (search rules) (search rules)) l.yielded _ l.yielded_by _ c.next.new.self c.in-Some.step c.in-Some.is c.next.ensures.steps in
    omega (arith, l.invariant.room, t.0)

pub loop-step-preserved : goal.loop-step-preserved
loop-step-preserved c =
    let l = c.loop-step in
    let t = YieldsList-turn (YieldsList-from_vec c.args.steps.items (search rules) (search rules)) l.yielded _ l.yielded_by _ c.next.new.self c.in-Some.step c.in-Some.is c.next.ensures.steps in
    rw (length_push l.yielded c.in-Some.step, c.in_ok-push.ensures.items) (one_noted c.args.planned.now.chain.segments c.args.planned.now.steps.items c.args.steps.items (length l.yielded) l.planned.chain l.planned.steps.items l.invariant c.in-Some.step t.0 t.1
    c.note_step.new.chain c.note_step.ensures)

pub returns-clause-segments : goal.returns-clause-segments
returns-clause-segments c =
    let l = c.loop-step in
    let t = YieldsList-end (YieldsList-from_vec c.args.steps.items (search rules) (search rules)) l.yielded _ l.yielded_by _ c.next.new.self c.in-None.is c.next.ensures.steps in
    all_noted c.args.planned.now.chain.segments c.args.planned.now.steps.items c.args.steps.items (length l.yielded) l.planned.chain l.planned.steps.items l.invariant t.1

pub returns-clause-steps : goal.returns-clause-steps
returns-clause-steps c =
    let l = c.loop-step in
    let t = YieldsList-end (YieldsList-from_vec c.args.steps.items (search rules) (search rules)) l.yielded _ l.yielded_by _ c.next.new.self c.in-None.is c.next.ensures.steps in
    steps_noted c.args.planned.now.chain.segments c.args.planned.now.steps.items c.args.steps.items (length l.yielded) l.planned.chain l.planned.steps.items l.invariant t.1

pub returns-clause-fresh : goal.returns-clause-fresh
returns-clause-fresh c = c.loop-step.invariant.fresh

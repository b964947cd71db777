use Rattle.std.proofs.Common.{◌∙◌, ◌+◌, ℕ, length, arith, refl, sym, subst, rules}
use Rattle.std.proofs.lemmas.{Iterator.Adapters.{YieldsList-from_vec}, Iterator.Consumers.{YieldsList-end, YieldsList-turn}, List.{length_push}}
use Rattle.rio_session.proofs.StepsMade.{Making, all_made, all_segments, can_step, made_in_time, making_begins, step_done, step_in_time, step_writes}
use Rattle.rio_session.proofs.steps.make_changes.Goals as goal

pub loop-step-init : goal.loop-step-init
loop-step-init g c = making_begins (g.H.Host.view c.args.host.now) c.args.chain.now c.args.steps.items c.requires.quiet c.requires.holds c.requires.run

pub make_change-requires-clause-can : goal.make_change-requires-clause-can
make_change-requires-clause-can g c =
    let t = YieldsList-turn (YieldsList-from_vec c.args.steps.items (search rules) (search rules)) c.loop-step.yielded _ c.loop-step.yielded_by _ c.next.new.self c.in-Some.step c.in-Some.is c.next.ensures.steps in
    can_step (g.H.Host.view c.args.host.now) (g.H.Host.view c.loop-step.host) c.args.chain.now c.args.steps.items (length c.loop-step.yielded) c.loop-step.chain c.loop-step.invariant c.in-Some.step t.0 t.1

pub make_change-requires-clause-fresh : goal.make_change-requires-clause-fresh
make_change-requires-clause-fresh g c = c.loop-step.invariant.spent ∙ c.requires.fresh

pub make_change-requires-clause-room : goal.make_change-requires-clause-room
make_change-requires-clause-room g c =
    let t = YieldsList-turn (YieldsList-from_vec c.args.steps.items (search rules) (search rules)) c.loop-step.yielded _ c.loop-step.yielded_by _ c.next.new.self c.in-Some.step c.in-Some.is c.next.ensures.steps in
    omega (arith, c.loop-step.invariant.spare, c.requires.room, t.0)

pub returns-in_err-make_change-clause-any_moment : goal.returns-in_err-make_change-clause-any_moment
returns-in_err-make_change-clause-any_moment g c =
    let t = YieldsList-turn (YieldsList-from_vec c.args.steps.items (search rules) (search rules)) c.loop-step.yielded _ c.loop-step.yielded_by _ c.next.new.self c.in-Some.step c.in-Some.is c.next.ensures.steps in
    step_in_time (g.H.Host.view c.args.host.now) (g.H.Host.view c.loop-step.host) c.args.chain.now c.args.steps.items (length c.loop-step.yielded) c.loop-step.chain c.loop-step.invariant c.in-Some.step t.0 t.1
    (g.H.Host.view c.make_change.new.host) c.make_change.ensures.any_moment c.make_change.ensures.writes

pub returns-in_err-make_change-clause-writes : goal.returns-in_err-make_change-clause-writes
returns-in_err-make_change-clause-writes g c =
    let t = YieldsList-turn (YieldsList-from_vec c.args.steps.items (search rules) (search rules)) c.loop-step.yielded _ c.loop-step.yielded_by _ c.next.new.self c.in-Some.step c.in-Some.is c.next.ensures.steps in
    step_writes (g.H.Host.view c.args.host.now) (g.H.Host.view c.loop-step.host) c.args.chain.now c.args.steps.items (length c.loop-step.yielded) c.loop-step.chain c.loop-step.invariant c.in-Some.step t.0 t.1
    (g.H.Host.view c.make_change.new.host) c.make_change.ensures.any_moment c.make_change.ensures.writes

pub loop-step-preserved : goal.loop-step-preserved
loop-step-preserved g c =
    let t = YieldsList-turn (YieldsList-from_vec c.args.steps.items (search rules) (search rules)) c.loop-step.yielded _ c.loop-step.yielded_by _ c.next.new.self c.in-Some.step c.in-Some.is c.next.ensures.steps in
    subst (λ (n : ℕ). Making (g.H.Host.view c.args.host.now) (g.H.Host.view c.make_change.new.host) c.args.chain.now c.args.steps.items n c.make_change.new.chain) (sym (length_push c.loop-step.yielded c.in-Some.step))
    (step_done (g.H.Host.view c.args.host.now) (g.H.Host.view c.loop-step.host) c.args.chain.now c.args.steps.items (length c.loop-step.yielded) c.loop-step.chain c.loop-step.invariant c.in-Some.step t.0 t.1
    (g.H.Host.view c.make_change.new.host) c.make_change.ensures.any_moment c.make_change.ensures.writes c.make_change.new.chain c.in_ok-make_change.ensures.holds c.in_ok-make_change.ensures.quiet
    (c.in_ok-make_change.ensures.cause.counted refl) c.in_ok-make_change.ensures.chain)

pub returns-clause-done : goal.returns-clause-done
returns-clause-done g c =
    let t = YieldsList-end (YieldsList-from_vec c.args.steps.items (search rules) (search rules)) c.loop-step.yielded _ c.loop-step.yielded_by _ c.next.new.self c.in-None.is c.next.ensures.steps in
    all_made (g.H.Host.view c.args.host.now) (g.H.Host.view c.loop-step.host) c.args.chain.now c.args.steps.items (length c.loop-step.yielded) c.loop-step.chain c.loop-step.invariant t.1

pub returns-clause-any_moment : goal.returns-clause-any_moment
returns-clause-any_moment g c =
    let t = YieldsList-end (YieldsList-from_vec c.args.steps.items (search rules) (search rules)) c.loop-step.yielded _ c.loop-step.yielded_by _ c.next.new.self c.in-None.is c.next.ensures.steps in
    made_in_time (g.H.Host.view c.args.host.now) (g.H.Host.view c.loop-step.host) c.args.chain.now c.args.steps.items (length c.loop-step.yielded) c.loop-step.chain c.loop-step.invariant t.1

pub returns-clause-chain : goal.returns-clause-chain
returns-clause-chain g c =
    let t = YieldsList-end (YieldsList-from_vec c.args.steps.items (search rules) (search rules)) c.loop-step.yielded _ c.loop-step.yielded_by _ c.next.new.self c.in-None.is c.next.ensures.steps in
    all_segments (g.H.Host.view c.args.host.now) (g.H.Host.view c.loop-step.host) c.args.chain.now c.args.steps.items (length c.loop-step.yielded) c.loop-step.chain c.loop-step.invariant t.1

pub returns-clause-spare : goal.returns-clause-spare
returns-clause-spare g c =
    let t = YieldsList-end (YieldsList-from_vec c.args.steps.items (search rules) (search rules)) c.loop-step.yielded _ c.loop-step.yielded_by _ c.next.new.self c.in-None.is c.next.ensures.steps in
    omega (arith, c.loop-step.invariant.spare, t.1)

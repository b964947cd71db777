use Rattle.std.proofs.{Common.{◌≡◌, ◌∙◌, ◌+◌, refl, ap, subst, arith}, lemmas.Result.{err_from_is_err_and}}
use Rattle.rio_step.specs.Step.{refused, rows_saved}
use Rattle.rio_chain.specs.Adjoining.{AreSegments}
use Rattle.rio_machine.specs.declared.refusal.Refusal.TheVariants.{Full as FullRefusal}
use Rattle.rio_session.specs.{Replying.{reply_text}, SavePlans.{LacksSaveRoom}, Session.{SessionState}, Sound.{IsSoundState}}
use Rattle.rio_session.proofs.{CostOfSave.{cost_now, rows_now, trees_in_order}, OnlyReplies.{does_nothing}, SaveCalls.{save_is_done, save_is_refused, says_as}}
use Rattle.rio_session.proofs.session.Session.save_at.Goals as goal

pub put_save-requires-clause-can : goal.put_save-requires-clause-can
put_save-requires-clause-can g c =
    let t = c.requires.there.0 in
    let named = c.requires.there.1 in
    (t, named, c.requires.can.0, c.in-Ok.ensures.plan t named.found)

pub returns-in_err-text-in-Ok-clause-does : goal.returns-in_err-text-in-Ok-clause-does
returns-in_err-text-in-Ok-clause-does g c command todo =
    let p = err_from_is_err_and c.from_residual.result c.from_residual.ensures.1 in
    rw (p.1, p.2) (does_nothing c.args.replies (g.H.Host.view c.args.host.now) c.args.self.now command (g.met.H.Host.lawful c.args.host.now) c.requires.ready c.requires.fresh)

pub returns-in_ok-text-in-Ok-clause-does : goal.returns-in_ok-text-in-Ok-clause-does
returns-in_ok-text-in-Ok-clause-does g c command todo =
    let s = c.args.self.now in
    let k = c.args.before.now in
    let t = c.requires.there.0 in
    let named = c.requires.there.1 in
    let v = c.self.view_is in
    let trees = c.self.inside.filled.trees in
    let sound : IsSoundState s = subst IsSoundState v (record { classes = c.self.invariant.classes; kept = c.self.invariant.kept }) in
    let ordered = trees_in_order s _ v trees refl k.name c.args.at t named c.rows-saved.ensures.ordered in
    let form : AreSegments s.segments = subst (λ (x : SessionState). AreSegments x.segments) v c.end-end.ensures.shape in
    let count : c.in-Some.rows ≡ t.fill.saved + t.fill.pending = omega (arith, c.in-Some.ensures, rows_now s _ v trees refl k.name c.args.at t named c.rows-saved.result.0 c.rows-saved.result.1 c.rows-saved.ensures.exact) in
    let cost = cost_now s _ v trees refl k.name c.args.at t named c.in-Some.rows c.save_cost-cost.result count c.save_cost-cost.ensures in
    let text = c.as_slice.ensures ∙ c.in_ok-text-in-Ok.ensures ∙ (λ i. reply_text c.args.replies (rows_saved (c.as_slice-name.ensures i) (k.cycle + 1) (count i))) in
    let plan = c.in-Ok.ensures.plan t named.found in
    save_is_done c.args.replies c.headers_have_records.ensures (g.H.Host.view c.args.host.now) (g.H.Host.view c.put_save.new.host) s c.put_save.new.self (g.met.H.Host.lawful c.args.host.now) (g.met.H.Host.lawful c.put_save.new.host)
    c.requires.ready c.requires.fresh sound (omega (arith, ap (λ (x : SessionState). x.datime) v)) c.put_save.result k c.requires.can t named.found ordered form command todo
    c.as_slice.result.now plan.room text (c.put_save.ensures.changes t _ named cost) c.put_save.ensures.outcome

pub returns-in-Err-Full-clause-does : goal.returns-in-Err-Full-clause-does
returns-in-Err-Full-clause-does g c command todo =
    let s = c.args.self.now in
    let k = c.args.before.now in
    let t = c.requires.there.0 in
    let named = c.requires.there.1 in
    let v = c.self.view_is in
    let trees = c.self.inside.filled.trees in
    let sound : IsSoundState s = subst IsSoundState v (record { classes = c.self.invariant.classes; kept = c.self.invariant.kept }) in
    let ordered = trees_in_order s _ v trees refl k.name c.args.at t named c.rows-saved.ensures.ordered in
    let form : AreSegments s.segments = subst (λ (x : SessionState). AreSegments x.segments) v c.end-end.ensures.shape in
    let count : c.in-Some.rows ≡ t.fill.saved + t.fill.pending = omega (arith, c.in-Some.ensures, rows_now s _ v trees refl k.name c.args.at t named c.rows-saved.result.0 c.rows-saved.result.1 c.rows-saved.ensures.exact) in
    let cost = cost_now s _ v trees refl k.name c.args.at t named c.in-Some.rows c.save_cost-cost.result count c.save_cost-cost.ensures in
    let fault = c.in-Err-Full.ensures.full t named.found in
    let full = subst (LacksSaveRoom s t k) c.in-Err-Full.field-0-is fault in
    let says = says_as (reply_text c.args.replies (refused (FullRefusal c.in-Err-Full.end c.in-Err-Full.wanted))) c.save_cost-cost.result _ (g.H.Host.view c.args.host.now) (g.H.Host.view c.refuse.new.host) s c.refuse.new.self c.refuse.result cost c.refuse.ensures.says in
    save_is_refused c.args.replies c.headers_have_records.ensures (g.H.Host.view c.args.host.now) (g.H.Host.view c.refuse.new.host) s c.refuse.new.self (g.met.H.Host.lawful c.args.host.now) (g.met.H.Host.lawful c.refuse.new.host)
    c.requires.ready c.requires.fresh sound (omega (arith, ap (λ (x : SessionState). x.datime) v)) c.refuse.result k c.requires.can t named.found ordered form command todo
    full.0 c.in-Err-Full.end c.in-Err-Full.wanted full.1 full.2 says c.refuse.ensures.outcome

use Rattle.std.proofs.{Common.{◌≡◌, ◌∙◌, ◌+◌, ◌%◌, ◌≤◌, ◌<◌, ◌^◌, List, [], ◌∷◌, length, map, false, sym, ap, subst, arith}, lemmas.Result.{err_from_is_err_and}, lemmas.List.Sums.{sum-map}}
use Rattle.std.specs.Prelude.{sum}
use Rattle.rio_chain.specs.{Adjoining.{AreSegments}, Placing.{file_end, place_of, with_segment}, declared.fault.PlanFault.TheVariants.{Full}}
use Rattle.rio_machine.specs.State.{NameAndCycle}
use Rattle.rio_judge.specs.declared.work.StoredObject.{StoredObject}
use Rattle.rio_state.specs.Closing.{end_limit, is_full}
use Rattle.rio_step.specs.{KeptItems.{item_of_key}, Step.{objects_put}}
use Rattle.rio_session.specs.{Sound.{IsSoundState}, Puts.{IsFullFor, stored_length}, Replying.{reply_text}, Session.{SessionState}}
use Rattle.rio_session.proofs.{BatchCalls.{batch_can_be_put, batch_full_is_said, batch_is_done}, BatchCounts.{placed_within}, OnlyReplies.{does_nothing}}
use Rattle.rio_session.proofs.BatchMade.{cost_low, each_stored, items_stored, records_aligned, records_low, records_some, short_words}
use Rattle.rio_session.proofs.session.Session.put_all.Goals as goal

pub records_length-n-requires-clause-short : goal.records_length-n-requires-clause-short
records_length-n-requires-clause-short g c =
    let s = c.args.self.now in
    short_words s.classes c.args.objects.now (each_stored s.classes s.heads c.args.objects.now c.requires.can.each)

pub records_length-n-requires-clause-low : goal.records_length-n-requires-clause-low
records_length-n-requires-clause-low g c =
    let s = c.args.self.now in
    let low = records_low s.classes c.args.objects.now (each_stored s.classes s.heads c.args.objects.now c.requires.can.each) in
    omega (arith, low, c.requires.can.few)

pub cost_of_all-cost-requires : goal.cost_of_all-cost-requires
cost_of_all-cost-requires g c =
    let s = c.args.self.now in
    let low = cost_low s.classes c.args.objects.now (each_stored s.classes s.heads c.args.objects.now c.requires.can.each) in
    omega (arith, low, c.requires.can.few)

pub need_with_all-requires-clause-few : goal.need_with_all-requires-clause-few
need_with_all-requires-clause-few g c = c.requires.can.few

pub need_with_all-requires-clause-stored : goal.need_with_all-requires-clause-stored
need_with_all-requires-clause-stored g c = let s = c.args.self.now in each_stored s.classes s.heads c.args.objects.now c.requires.can.each

pub place_within-requires-clause-aligned : goal.place_within-requires-clause-aligned
place_within-requires-clause-aligned g c = omega (arith, c.records_length-n.ensures, records_aligned c.args.objects.now)

pub place_within-requires-clause-some : goal.place_within-requires-clause-some
place_within-requires-clause-some g c = omega (arith, c.records_length-n.ensures, records_some c.args.objects.now c.requires.can.some)

pub make_all-requires-clause-some : goal.make_all-requires-clause-some
make_all-requires-clause-some g c = c.requires.can.some

pub make_all-requires-clause-stored : goal.make_all-requires-clause-stored
make_all-requires-clause-stored g c = let s = c.args.self.now in each_stored s.classes s.heads c.args.objects.now c.requires.can.each

pub make_all-requires-clause-low : goal.make_all-requires-clause-low
make_all-requires-clause-low g c =
    let segments = c.self.inside.chain.segments in
    let some : 4 ≤ c.records_length-n.result = omega (arith, c.records_length-n.ensures, records_some c.args.objects.now c.requires.can.some) in
    let aligned : c.records_length-n.result % 4 ≡ 0 = omega (arith, c.records_length-n.ensures, records_aligned c.args.objects.now) in
    let within = placed_within segments c.records_length-n.result c.need_with_all.result c.in-Ok.ensures.shape some aligned c.in-Ok.ensures.fits in
    omega (arith, within, c.in-Ok.ensures.place, c.records_length-n.ensures)

pub make_all-requires-clause-soon : goal.make_all-requires-clause-soon
make_all-requires-clause-soon g c = omega (arith, ap (λ (x : SessionState). x.datime) c.self.view_is)

pub returns-in_err-made-in-Ok-clause-does : goal.returns-in_err-made-in-Ok-clause-does
returns-in_err-made-in-Ok-clause-does g c command todo =
    let p = err_from_is_err_and c.from_residual.result c.from_residual.ensures.1 in
    rw (p.1, p.2) (does_nothing c.args.replies (g.H.Host.view c.args.host.now) c.args.self.now command (g.met.H.Host.lawful c.args.host.now) c.requires.ready c.requires.fresh)

pub returns-in_err-text-in-Ok-clause-does : goal.returns-in_err-text-in-Ok-clause-does
returns-in_err-text-in-Ok-clause-does g c command todo =
    let p = err_from_is_err_and c.from_residual-in_err-text-in-Ok.result c.from_residual-in_err-text-in-Ok.ensures.1 in
    rw (p.1, p.2) (does_nothing c.args.replies (g.H.Host.view c.args.host.now) c.args.self.now command (g.met.H.Host.lawful c.args.host.now) c.requires.ready c.requires.fresh)

pub put_all_and_say-requires-clause-can : goal.put_all_and_say-requires-clause-can
put_all_and_say-requires-clause-can g c =
    let s = c.args.self.now in
    let os = c.args.objects.now in
    let v = c.self.view_is in
    let n = c.records_length-n.result in
    let need = c.need_with_all.result in
    let long : n ≡ sum (map stored_length os) = c.records_length-n.ensures ∙ sym (sum-map stored_length os) in
    let some : 4 ≤ n = omega (arith, c.records_length-n.ensures, records_some os c.requires.can.some) in
    let aligned : n % 4 ≡ 0 = omega (arith, c.records_length-n.ensures, records_aligned os) in
    let shape : AreSegments s.segments = subst (λ (x : SessionState). AreSegments x.segments) v c.in-Ok.ensures.shape in
    let at = c.in-Ok.ensures.place ∙ ap (λ (x : SessionState). place_of x.segments n) v in
    let fits = subst (λ (x : SessionState). file_end (with_segment (place_of x.segments n) n x.segments) + need ≤ end_limit) v c.in-Ok.ensures.fits in
    let within = placed_within s.segments n need shape some aligned fits in
    let low : c.in-Ok.place + n < 2 ^ 32 = omega (arith, within, at) in
    batch_can_be_put s os c.requires.can n need long c.need_with_all.ensures c.in-Ok.place c.in_ok-made-in-Ok.made shape low c.in_ok-made-in-Ok.ensures at fits

pub returns-in_ok-text-in-Ok-clause-does : goal.returns-in_ok-text-in-Ok-clause-does
returns-in_ok-text-in-Ok-clause-does g c command todo =
    let s = c.args.self.now in
    let os = c.args.objects.now in
    let v = c.self.view_is in
    let n = c.records_length-n.result in
    let need = c.need_with_all.result in
    let made = c.in_ok-made-in-Ok.made in
    let sound : IsSoundState s = subst IsSoundState c.self.view_is (record { classes = c.self.invariant.classes; kept = c.self.invariant.kept }) in
    let long : n ≡ sum (map stored_length os) = c.records_length-n.ensures ∙ sym (sum-map stored_length os) in
    let cost = c.cost_of_all-cost.ensures ∙ sym (sum-map (λ (o : StoredObject). 500 + o.length) os) in
    let at = c.in-Ok.ensures.place ∙ ap (λ (x : SessionState). place_of x.segments n) v in
    let items : map item_of_key c.deref.result.now ≡ map (λ o. (o.name, o.cycle)) os = ap (map item_of_key) (c.deref.ensures.value ∙ c.in_ok-made-in-Ok.ensures.heads) ∙ items_stored s c.in-Ok.place os in
    let text = c.as_slice.ensures ∙ c.in_ok-text-in-Ok.ensures ∙ ap (λ (l : List NameAndCycle). reply_text c.args.replies (objects_put l)) items in
    let room = subst (λ (x : SessionState). is_full x.segments (n ∷ []) need ≡ false) v c.in-Ok.ensures.room in
    batch_is_done s os c.requires.can n need long c.need_with_all.ensures sound
    c.args.replies (g.H.Host.view c.args.host.now) (g.H.Host.view c.put_all_and_say.new.host) c.put_all_and_say.new.self (g.met.H.Host.lawful c.args.host.now) (g.met.H.Host.lawful c.put_all_and_say.new.host)
    c.requires.ready c.requires.fresh (omega (arith, ap (λ (x : SessionState). x.datime) v)) c.put_all_and_say.result c.cost_of_all-cost.result cost command todo
    c.in-Ok.place made c.as_slice.result.now c.in_ok-made-in-Ok.ensures text at room c.put_all_and_say.ensures.changes c.put_all_and_say.ensures.outcome

pub returns-in-Err-Full-clause-does : goal.returns-in-Err-Full-clause-does
returns-in-Err-Full-clause-does g c command todo =
    let s = c.args.self.now in
    let os = c.args.objects.now in
    let v = c.self.view_is in
    let n = c.records_length-n.result in
    let need = c.need_with_all.result in
    let sound : IsSoundState s = subst IsSoundState c.self.view_is (record { classes = c.self.invariant.classes; kept = c.self.invariant.kept }) in
    let long : n ≡ sum (map stored_length os) = c.records_length-n.ensures ∙ sym (sum-map stored_length os) in
    let cost = c.cost_of_all-cost.ensures ∙ sym (sum-map (λ (o : StoredObject). 500 + o.length) os) in
    let fault = subst (IsFullFor c.self.inside.chain.segments n need) c.in-Err-Full.field-0-is c.in-Err-Full.ensures.full in
    let full = subst (λ (x : SessionState). IsFullFor x.segments n need (Full c.in-Err-Full.end c.in-Err-Full.wanted)) v fault in
    let says = c.refuse.ensures.says in
    let outcome = c.refuse.ensures.outcome in
    batch_full_is_said s os c.requires.can n need long c.need_with_all.ensures sound
    c.args.replies (g.H.Host.view c.args.host.now) (g.H.Host.view c.refuse.new.host) c.refuse.new.self (g.met.H.Host.lawful c.args.host.now) (g.met.H.Host.lawful c.refuse.new.host)
    c.requires.ready c.requires.fresh (omega (arith, ap (λ (x : SessionState). x.datime) v)) c.refuse.result c.cost_of_all-cost.result cost command todo
    c.in-Err-Full.end c.in-Err-Full.wanted full.1 full.2 full.0 says outcome

pub returns-in-Err-NoMemory-clause-does : goal.returns-in-Err-NoMemory-clause-does
returns-in-Err-NoMemory-clause-does g c command todo = does_nothing c.args.replies (g.H.Host.view c.args.host.now) c.args.self.now command (g.met.H.Host.lawful c.args.host.now) c.requires.ready c.requires.fresh

use Rattle.std.proofs.{Common.{◌≡◌, ◌∙◌, ◌+◌, ◌≤◌, ℕ, List, [], ◌∷◌, length, true, false, sym, ap, subst, arith}, lemmas.Result.{err_from_is_err_and}}
use Rattle.rio_dir.specs.Table.{with_head}
use Rattle.rio_chain.specs.{Placing.{file_end, place_of, record_count, with_segment}, declared.fault.PlanFault.TheVariants.{Full}}
use Rattle.rio_key.specs.declared.head.KeyHead.{KeyHead}
use Rattle.rio_machine.specs.Limits.{head_length}
use Rattle.rio_state.specs.Closing.{end_limit, is_full, padded_length}
use Rattle.rio_step.specs.Step.{object_put}
use Rattle.rio_recover.specs.Closable.{is_sized}
use Rattle.rio_session.specs.{Due.{need_with}, Sound.{IsSoundState}, Puts.{IsFullFor}, Replying.{reply_text}, Session.{SessionState}}
use Rattle.rio_session.proofs.{PutCalls.{full_is_said, put_is_done, record_can_be_put}, OnlyReplies.{does_nothing}}
use Rattle.rio_session.proofs.session.Session.put.Goals as goal

pub key_length-requires-clause-class : goal.key_length-requires-clause-class
key_length-requires-clause-class g c = omega (arith, c.requires.can.0.class_short, ap length c.as_slice-class.ensures)

pub key_length-requires-clause-name : goal.key_length-requires-clause-name
key_length-requires-clause-name g c = omega (arith, c.requires.can.0.name_short, ap length c.as_slice-name.ensures)

pub returns-in_err-made-in-Ok-clause-does : goal.returns-in_err-made-in-Ok-clause-does
returns-in_err-made-in-Ok-clause-does g c command todo =
    let p = err_from_is_err_and c.from_residual.result c.from_residual.ensures.1 in
    rw (p.1, p.2) (does_nothing c.args.replies (g.H.Host.view c.args.host.now) c.args.self.now command (g.met.H.Host.lawful c.args.host.now) c.requires.ready c.requires.fresh)

pub returns-in_err-text-in-Ok-clause-does : goal.returns-in_err-text-in-Ok-clause-does
returns-in_err-text-in-Ok-clause-does g c command todo =
    let p = err_from_is_err_and c.from_residual-in_err-text-in-Ok.result c.from_residual-in_err-text-in-Ok.ensures.1 in
    rw (p.1, p.2) (does_nothing c.args.replies (g.H.Host.view c.args.host.now) c.args.self.now command (g.met.H.Host.lawful c.args.host.now) c.requires.ready c.requires.fresh)

pub put_and_say-requires-clause-can : goal.put_and_say-requires-clause-can
put_and_say-requires-clause-can g c =
    let s = c.args.self.now in
    let o = c.args.object.now in
    let v = c.self.view_is in
    let sound : IsSoundState s = subst IsSoundState c.self.view_is (record { classes = c.self.invariant.classes; kept = c.self.invariant.kept }) in
    let keyed : c.key_length.result ≡ head_length o.class o.name = c.key_length.ensures.exact ∙ (λ i. head_length (c.as_slice-class.ensures i) (c.as_slice-name.ensures i)) in
    let long : c.padded-n.result ≡ padded_length (head_length o.class o.name + o.length) = c.padded-n.ensures ∙ ap (λ (x : ℕ × ℕ). padded_length (x.0 + x.1)) (λ i. (keyed i, c.from-length.ensures i)) in
    let need : (h : KeyHead) → is_sized h ≡ true → h.class ≡ o.class → h.name ≡ o.name → c.need_with.result ≡ need_with s.name (with_head h s.heads) (record_count s.segments + 1) s.trees =
    λ h sized class name. c.need_with.ensures h sized (class ∙ sym c.as_slice-class.ensures) (name ∙ sym c.as_slice-name.ensures) in
    let at = c.in-Ok.ensures.place ∙ ap (λ (x : SessionState). place_of x.segments c.padded-n.result) v in
    let fits = subst (λ (x : SessionState). file_end (with_segment (place_of x.segments c.padded-n.result) c.padded-n.result x.segments) + c.need_with.result ≤ end_limit) v c.in-Ok.ensures.fits in
    record_can_be_put s o c.requires.can sound c.padded-n.result c.need_with.result long need c.in-Ok.place c.in_ok-made-in-Ok.made (omega (arith, c.in-Ok.ensures.low)) c.in_ok-made-in-Ok.ensures at fits

pub returns-in_ok-text-in-Ok-clause-does : goal.returns-in_ok-text-in-Ok-clause-does
returns-in_ok-text-in-Ok-clause-does g c command todo =
    let s = c.args.self.now in
    let o = c.args.object.now in
    let v = c.self.view_is in
    let sound : IsSoundState s = subst IsSoundState c.self.view_is (record { classes = c.self.invariant.classes; kept = c.self.invariant.kept }) in
    let keyed : c.key_length.result ≡ head_length o.class o.name = c.key_length.ensures.exact ∙ (λ i. head_length (c.as_slice-class.ensures i) (c.as_slice-name.ensures i)) in
    let long : c.padded-n.result ≡ padded_length (head_length o.class o.name + o.length) = c.padded-n.ensures ∙ ap (λ (x : ℕ × ℕ). padded_length (x.0 + x.1)) (λ i. (keyed i, c.from-length.ensures i)) in
    let need : (h : KeyHead) → is_sized h ≡ true → h.class ≡ o.class → h.name ≡ o.name → c.need_with.result ≡ need_with s.name (with_head h s.heads) (record_count s.segments + 1) s.trees =
    λ h sized class name. c.need_with.ensures h sized (class ∙ sym c.as_slice-class.ensures) (name ∙ sym c.as_slice-name.ensures) in
    let at = c.in-Ok.ensures.place ∙ ap (λ (x : SessionState). place_of x.segments c.padded-n.result) v in
    let text = c.as_slice.ensures ∙ c.in_ok-text-in-Ok.ensures ∙ ap (λ (x : List ℕ). reply_text c.args.replies (object_put x o.cycle)) c.as_slice-name.ensures in
    let room = subst (λ (x : SessionState). is_full x.segments (c.padded-n.result ∷ []) c.need_with.result ≡ false) v c.in-Ok.ensures.room in
    put_is_done s o c.requires.can sound c.padded-n.result c.need_with.result long need
    c.args.replies (g.H.Host.view c.args.host.now) (g.H.Host.view c.put_and_say.new.host) c.put_and_say.new.self (g.met.H.Host.lawful c.args.host.now) (g.met.H.Host.lawful c.put_and_say.new.host)
    c.requires.ready c.requires.fresh (omega (arith, ap (λ (x : SessionState). x.datime) v)) c.put_and_say.result (500 + c.from-length.result) (ap (λ (k : ℕ). 500 + k) c.from-length.ensures) command todo
    c.in-Ok.place c.in_ok-made-in-Ok.made c.as_slice.result.now (omega (arith, c.in-Ok.ensures.low)) c.in_ok-made-in-Ok.ensures text at room c.put_and_say.ensures.changes c.put_and_say.ensures.outcome

pub returns-in-Err-Full-clause-does : goal.returns-in-Err-Full-clause-does
returns-in-Err-Full-clause-does g c command todo =
    let s = c.args.self.now in
    let o = c.args.object.now in
    let v = c.self.view_is in
    let sound : IsSoundState s = subst IsSoundState c.self.view_is (record { classes = c.self.invariant.classes; kept = c.self.invariant.kept }) in
    let keyed : c.key_length.result ≡ head_length o.class o.name = c.key_length.ensures.exact ∙ (λ i. head_length (c.as_slice-class.ensures i) (c.as_slice-name.ensures i)) in
    let long : c.padded-n.result ≡ padded_length (head_length o.class o.name + o.length) = c.padded-n.ensures ∙ ap (λ (x : ℕ × ℕ). padded_length (x.0 + x.1)) (λ i. (keyed i, c.from-length.ensures i)) in
    let need : (h : KeyHead) → is_sized h ≡ true → h.class ≡ o.class → h.name ≡ o.name → c.need_with.result ≡ need_with s.name (with_head h s.heads) (record_count s.segments + 1) s.trees =
    λ h sized class name. c.need_with.ensures h sized (class ∙ sym c.as_slice-class.ensures) (name ∙ sym c.as_slice-name.ensures) in
    let fault = subst (IsFullFor c.self.inside.chain.segments c.padded-n.result c.need_with.result) c.in-Err-Full.field-0-is c.in-Err-Full.ensures.full in
    let full = subst (λ (x : SessionState). IsFullFor x.segments c.padded-n.result c.need_with.result (Full c.in-Err-Full.end c.in-Err-Full.wanted)) v fault in
    let says = rw c.in-Err-Full.field-0-is at c.refuse.ensures.says in
    let outcome = rw c.in-Err-Full.field-0-is at c.refuse.ensures.outcome in
    full_is_said s o c.requires.can sound c.padded-n.result c.need_with.result long need
    c.args.replies (g.H.Host.view c.args.host.now) (g.H.Host.view c.refuse.new.host) c.refuse.new.self (g.met.H.Host.lawful c.args.host.now) (g.met.H.Host.lawful c.refuse.new.host)
    c.requires.ready c.requires.fresh (omega (arith, ap (λ (x : SessionState). x.datime) v)) c.refuse.result (500 + c.from-length.result) (ap (λ (k : ℕ). 500 + k) c.from-length.ensures) command todo
    c.in-Err-Full.end c.in-Err-Full.wanted full.1 full.2 full.0 says outcome

pub returns-in-Err-NoMemory-clause-does : goal.returns-in-Err-NoMemory-clause-does
returns-in-Err-NoMemory-clause-does g c command todo = does_nothing c.args.replies (g.H.Host.view c.args.host.now) c.args.self.now command (g.met.H.Host.lawful c.args.host.now) c.requires.ready c.requires.fresh

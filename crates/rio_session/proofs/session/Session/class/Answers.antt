use Rattle.std.proofs.{Common.{◌≡◌, ◌+◌, ◌≤◌, ◌∙◌, ℕ, [], ◌∷◌, false, ap, subst, arith, of_z, to_z, w32}, lemmas.{Int.{to_z-of_z}, Result.{err_from_is_err_and}}}
use Rattle.rio_chain.specs.{Placing.{file_end, place_of, with_segment}, declared.fault.PlanFault.TheVariants.{Full}}
use Rattle.rio_state.specs.Closing.{end_limit, is_full, padded_length}
use Rattle.rio_step.specs.Step.{class_declared}
use Rattle.rio_effect.specs.ClassRecord.{list_key_size}
use Rattle.rio_recover.specs.{Classes.{HasListCycle}}
use Rattle.rio_session.specs.{Sound.{IsSoundState}, Puts.{IsFullFor}, Replying.{reply_text}, Session.{SessionState}}
use Rattle.rio_session.proofs.{ClassCalls.{can_be_listed, class_full_is_said, class_is_done}, OnlyReplies.{does_nothing}}
use Rattle.rio_session.proofs.session.Session.class.Goals as goal

pub returns-in_err-text-in-Ok-clause-does : goal.returns-in_err-text-in-Ok-clause-does
returns-in_err-text-in-Ok-clause-does g c command todo =
    let p = err_from_is_err_and c.from_residual.result c.from_residual.ensures.1 in
    rw (p.1, p.2) (does_nothing c.args.replies (g.H.Host.view c.args.host.now) c.args.self.now command (g.met.H.Host.lawful c.args.host.now) c.requires.ready c.requires.fresh)

pub declare_at-requires-clause-at : goal.declare_at-requires-clause-at
declare_at-requires-clause-at g c =
    let s = c.args.self.now in
    let d = c.args.new in
    let v = c.self.view_is in
    let listed : HasListCycle s.info s.classes = subst (λ (x : SessionState). HasListCycle x.info x.classes) v c.self.invariant.listed in
    let long : c.padded-n.result ≡ padded_length (list_key_size + d.length) = c.padded-n.ensures ∙ ap (λ (x : ℕ × ℕ). padded_length (x.0 + x.1)) (λ i. (c.list_key_length.ensures i, c.from-length.ensures i)) in
    let at = c.in-Ok.ensures.place ∙ ap (λ (x : SessionState). place_of x.segments c.padded-n.result) v in
    let fits = subst (λ (x : SessionState). file_end (with_segment (place_of x.segments c.padded-n.result) c.padded-n.result x.segments) + c.need_with_list.result ≤ end_limit) v c.in-Ok.ensures.fits in
    can_be_listed s d c.requires.can listed c.padded-n.result c.need_with_list.result long c.need_with_list.ensures c.in-Ok.place (omega (arith, c.in-Ok.ensures.low)) at fits

pub returns-in-Ok-clause-does : goal.returns-in-Ok-clause-does
returns-in-Ok-clause-does g c command todo =
    let s = c.args.self.now in
    let d = c.args.new in
    let v = c.self.view_is in
    let sound : IsSoundState s = subst IsSoundState v (record { classes = c.self.invariant.classes; kept = c.self.invariant.kept }) in
    let listed : HasListCycle s.info s.classes = subst (λ (x : SessionState). HasListCycle x.info x.classes) v c.self.invariant.listed in
    let long : c.padded-n.result ≡ padded_length (list_key_size + d.length) = c.padded-n.ensures ∙ ap (λ (x : ℕ × ℕ). padded_length (x.0 + x.1)) (λ i. (c.list_key_length.ensures i, c.from-length.ensures i)) in
    let at = c.in-Ok.ensures.place ∙ ap (λ (x : SessionState). place_of x.segments c.padded-n.result) v in
    let version : to_z w32 (of_z w32 d.class.version) ≡ d.class.version = grind (arith, to_z-of_z) in
    let text = c.as_slice-in-Ok.ensures ∙ c.in_ok-text-in-Ok.ensures ∙ (λ i. reply_text c.args.replies (class_declared (c.as_slice.ensures i) (version i))) in
    let room = subst (λ (x : SessionState). is_full x.segments (c.padded-n.result ∷ []) c.need_with_list.result ≡ false) v c.in-Ok.ensures.room in
    class_is_done c.args.replies s d c.requires.can sound listed (g.H.Host.view c.args.host.now) (g.H.Host.view c.declare_at.new.host) c.declare_at.new.self (g.met.H.Host.lawful c.args.host.now) (g.met.H.Host.lawful c.declare_at.new.host)
    c.requires.ready c.requires.fresh (omega (arith, ap (λ (x : SessionState). x.datime) v)) c.declare_at.result (100 + c.from-length.result) (ap (λ (k : ℕ). 100 + k) c.from-length.ensures)
    c.padded-n.result c.need_with_list.result long c.need_with_list.ensures command todo
    c.in-Ok.place c.as_slice-in-Ok.result.now (omega (arith, c.in-Ok.ensures.low)) text at room c.declare_at.ensures.changes c.declare_at.ensures.outcome

pub returns-in-Err-Full-clause-does : goal.returns-in-Err-Full-clause-does
returns-in-Err-Full-clause-does g c command todo =
    let s = c.args.self.now in
    let d = c.args.new in
    let v = c.self.view_is in
    let sound : IsSoundState s = subst IsSoundState v (record { classes = c.self.invariant.classes; kept = c.self.invariant.kept }) in
    let listed : HasListCycle s.info s.classes = subst (λ (x : SessionState). HasListCycle x.info x.classes) v c.self.invariant.listed in
    let long : c.padded-n.result ≡ padded_length (list_key_size + d.length) = c.padded-n.ensures ∙ ap (λ (x : ℕ × ℕ). padded_length (x.0 + x.1)) (λ i. (c.list_key_length.ensures i, c.from-length.ensures i)) in
    let fault = subst (IsFullFor c.self.inside.chain.segments c.padded-n.result c.need_with_list.result) c.in-Err-Full.field-0-is c.in-Err-Full.ensures.full in
    let full = subst (λ (x : SessionState). IsFullFor x.segments c.padded-n.result c.need_with_list.result (Full c.in-Err-Full.end c.in-Err-Full.wanted)) v fault in
    class_full_is_said c.args.replies s d c.requires.can sound listed (g.H.Host.view c.args.host.now) (g.H.Host.view c.refuse.new.host) c.refuse.new.self (g.met.H.Host.lawful c.args.host.now) (g.met.H.Host.lawful c.refuse.new.host)
    c.requires.ready c.requires.fresh (omega (arith, ap (λ (x : SessionState). x.datime) v)) c.refuse.result (100 + c.from-length.result) (ap (λ (k : ℕ). 100 + k) c.from-length.ensures)
    c.padded-n.result c.need_with_list.result long c.need_with_list.ensures command todo
    c.in-Err-Full.end c.in-Err-Full.wanted full.1 full.2 full.0 c.refuse.ensures.says c.refuse.ensures.outcome

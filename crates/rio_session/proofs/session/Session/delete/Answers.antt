use Rattle.std.proofs.{Common.{◌∙◌, ℕ, List, ap, subst}, lemmas.Result.{err_from_is_err_and}}
use Rattle.rio_step.specs.Step.{item_deleted}
use Rattle.rio_session.specs.{Replying.{reply_text}, Sound.{IsSoundState}}
use Rattle.rio_session.proofs.{DeleteCalls.{delete_is_done}, OnlyReplies.{does_nothing}}
use Rattle.rio_session.proofs.session.Session.delete.Goals as goal

pub returns-in_err-text-clause-does : goal.returns-in_err-text-clause-does
returns-in_err-text-clause-does g c command todo =
    let p = err_from_is_err_and c.from_residual-in_err-text.result c.from_residual-in_err-text.ensures.1 in
    rw (p.1, p.2) (does_nothing c.args.replies (g.H.Host.view c.args.host.now) c.args.self.now command (g.met.H.Host.lawful c.args.host.now) c.requires.ready c.requires.fresh)

pub returns-clause-does : goal.returns-clause-does
returns-clause-does g c command todo =
    let h = c.args.head.now in
    let s = c.args.self.now in
    let sound : IsSoundState s = subst IsSoundState c.self.view_is (record { classes = c.self.invariant.classes; kept = c.self.invariant.kept }) in
    let text = c.as_slice-3.ensures ∙ c.in_ok-text.ensures ∙ ap (λ (n : List ℕ). reply_text c.args.replies (item_deleted n h.cycle)) c.as_slice.ensures in
    delete_is_done c.args.replies (g.H.Host.view c.args.host.now) (g.H.Host.view c.release_and_say.new.host) s c.release_and_say.new.self (g.met.H.Host.lawful c.args.host.now) (g.met.H.Host.lawful c.release_and_say.new.host)
    c.requires.ready c.requires.fresh sound c.release_and_say.result command h c.as_slice-3.result.now todo text c.release_and_say.ensures.changes c.release_and_say.ensures.outcome

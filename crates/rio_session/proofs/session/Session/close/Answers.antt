use Rattle.std.proofs.{Common.{◌∙◌, ap, refl}, lemmas.Result.{err_from_is_err_and}}
use Rattle.rio_chain.specs.Chains.{ChainState}
use Rattle.rio_session.specs.SessionState.{SessionState}
use Rattle.rio_session.proofs.ClosePlanned.{can_close, can_write}
use Rattle.rio_session.proofs.session.Session.close.Goals as goal

pub plan_close-requires-clause-fresh : goal.plan_close-requires-clause-fresh
plan_close-requires-clause-fresh g c = c.self.invariant.fresh (ap (λ (s : SessionState). s.failed) c.self.view_is ∙ c.requires.fresh)

pub plan_close-requires-clause-can : goal.plan_close-requires-clause-can
plan_close-requires-clause-can g c =
    let v = c.self.view_is in
    let fresh = ap (λ (s : SessionState). s.failed) v ∙ c.requires.fresh in (
      c.args.self,
      can_close c.args.self _ v c.self.inside.filled.trees _ refl c.as_slice-trees.ensures.all c.as_slice-trees.ensures.ordered _ c.as_ref-last.ensures.value _ c.as_slice-own.ensures (c.self.invariant.kept fresh),
    )

pub write_planned-requires-clause-planned : goal.write_planned-requires-clause-planned
write_planned-requires-clause-planned g c =
    let v = c.self.view_is in
    let fresh = ap (λ (s : SessionState). s.failed) v ∙ c.requires.fresh in
    let can =
    can_close c.args.self _ v c.self.inside.filled.trees _ refl c.as_slice-trees.ensures.all c.as_slice-trees.ensures.ordered _ c.as_ref-last.ensures.value _ c.as_slice-own.ensures (c.self.invariant.kept fresh) in
    let write = can_write c.args.self _ v _ _ _ (ap (λ (x : ChainState). x.segments) c.in_ok-reserve.ensures.ok) c.reserve.ensures.shape (c.in_ok-planned.ensures c.args.self can) (c.self.invariant.directory fresh) in
    (c.args.self, write)

pub returns-in_err-write_planned-clause-any_moment : goal.returns-in_err-write_planned-clause-any_moment
returns-in_err-write_planned-clause-any_moment g c m text stands =
    let v = c.self.view_is in
    let fresh = ap (λ (s : SessionState). s.failed) v ∙ c.requires.fresh in
    let can =
    can_close c.args.self _ v c.self.inside.filled.trees _ refl c.as_slice-trees.ensures.all c.as_slice-trees.ensures.ordered _ c.as_ref-last.ensures.value _ c.as_slice-own.ensures (c.self.invariant.kept fresh) in
    let write = can_write c.args.self _ v _ _ _ (ap (λ (x : ChainState). x.segments) c.in_ok-reserve.ensures.ok) c.reserve.ensures.shape (c.in_ok-planned.ensures c.args.self can) (c.self.invariant.directory fresh) in
    c.write_planned.ensures.any_moment c.args.self m text write stands

pub returns-in_err-reserve-clause-cause : goal.returns-in_err-reserve-clause-cause
returns-in_err-reserve-clause-cause g c =
    let p = err_from_is_err_and c.from_residual-in_err-reserve.result c.from_residual-in_err-reserve.ensures.1 in
    rw (p.1, p.2) (refl, refl)

pub returns-in_err-write_planned-clause-cause : goal.returns-in_err-write_planned-clause-cause
returns-in_err-write_planned-clause-cause g c =
    let p = err_from_is_err_and c.from_residual-in_err-write_planned.result c.from_residual-in_err-write_planned.ensures.1 in
    rw (p.1, p.2) (c.in_err-write_planned.ensures.cause.rose refl, c.write_planned.ensures.writes.say_faults)

pub returns-clause-any_moment : goal.returns-clause-any_moment
returns-clause-any_moment g c m text stands =
    let v = c.self.view_is in
    let fresh = ap (λ (s : SessionState). s.failed) v ∙ c.requires.fresh in
    let can =
    can_close c.args.self _ v c.self.inside.filled.trees _ refl c.as_slice-trees.ensures.all c.as_slice-trees.ensures.ordered _ c.as_ref-last.ensures.value _ c.as_slice-own.ensures (c.self.invariant.kept fresh) in
    let write = can_write c.args.self _ v _ _ _ (ap (λ (x : ChainState). x.segments) c.in_ok-reserve.ensures.ok) c.reserve.ensures.shape (c.in_ok-planned.ensures c.args.self can) (c.self.invariant.directory fresh) in
    c.write_planned.ensures.any_moment c.args.self m text write stands

pub returns-clause-closed : goal.returns-clause-closed
returns-clause-closed g c m text stands image said left =
    let v = c.self.view_is in
    let fresh = ap (λ (s : SessionState). s.failed) v ∙ c.requires.fresh in
    let can =
    can_close c.args.self _ v c.self.inside.filled.trees _ refl c.as_slice-trees.ensures.all c.as_slice-trees.ensures.ordered _ c.as_ref-last.ensures.value _ c.as_slice-own.ensures (c.self.invariant.kept fresh) in
    let write = can_write c.args.self _ v _ _ _ (ap (λ (x : ChainState). x.segments) c.in_ok-reserve.ensures.ok) c.reserve.ensures.shape (c.in_ok-planned.ensures c.args.self can) (c.self.invariant.directory fresh) in
    c.in_ok-write_planned.ensures.closed c.args.self m text write stands image said left

pub returns-clause-written : goal.returns-clause-written
returns-clause-written g c m text stands =
    let v = c.self.view_is in
    let fresh = ap (λ (s : SessionState). s.failed) v ∙ c.requires.fresh in
    let can =
    can_close c.args.self _ v c.self.inside.filled.trees _ refl c.as_slice-trees.ensures.all c.as_slice-trees.ensures.ordered _ c.as_ref-last.ensures.value _ c.as_slice-own.ensures (c.self.invariant.kept fresh) in
    let write = can_write c.args.self _ v _ _ _ (ap (λ (x : ChainState). x.segments) c.in_ok-reserve.ensures.ok) c.reserve.ensures.shape (c.in_ok-planned.ensures c.args.self can) (c.self.invariant.directory fresh) in
    c.in_ok-write_planned.ensures.written c.args.self m text write stands

pub returns-clause-records : goal.returns-clause-records
returns-clause-records g c m text stands =
    let v = c.self.view_is in
    let fresh = ap (λ (s : SessionState). s.failed) v ∙ c.requires.fresh in
    let can =
    can_close c.args.self _ v c.self.inside.filled.trees _ refl c.as_slice-trees.ensures.all c.as_slice-trees.ensures.ordered _ c.as_ref-last.ensures.value _ c.as_slice-own.ensures (c.self.invariant.kept fresh) in
    let write = can_write c.args.self _ v _ _ _ (ap (λ (x : ChainState). x.segments) c.in_ok-reserve.ensures.ok) c.reserve.ensures.shape (c.in_ok-planned.ensures c.args.self can) (c.self.invariant.directory fresh) in
    c.in_ok-write_planned.ensures.records c.args.self m text write stands

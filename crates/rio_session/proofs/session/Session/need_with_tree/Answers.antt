use Rattle.std.proofs.Common.{◌≡◌, ◌∙◌, ◌+◌, ◌<◌, ◌≤◌, ◌^◌, ℕ, ap, arith}
use Rattle.rio_state.specs.Closing.{end_limit}
use Rattle.rio_session.specs.Session.{SessionState}
use Rattle.rio_session.proofs.Needs.{kept_bounds}
use Rattle.rio_session.proofs.session.Session.need_with_tree.Goals.{in-None, in-Some}
use Rattle.rio_session.proofs.session.Session.need_with_tree.Goals as goal

pub overflow_add-heads : goal.overflow_add-heads
overflow_add-heads c =
    let fresh = ap (λ (s : SessionState). s.failed) c.self.view_is ∙ c.requires.fresh in
    let b = kept_bounds _ _ _ _ _ (c.self.invariant.kept fresh) in
    omega (arith, b.heads, c.self.invariant.bytes fresh, c.key_length.ensures.short)

pub overflow_add-live : goal.overflow_add-live
overflow_add-live c =
    let b = kept_bounds _ _ _ _ _ (c.self.invariant.kept (ap (λ (s : SessionState). s.failed) c.self.view_is ∙ c.requires.fresh)) in
    let few : c.match-list.more ≤ 2 = elim c.match-list.branch [
      | in-Some w ↦ omega (arith, w.more-is)
      | in-None w ↦ omega (arith, w.more-is)
    ] in
    omega (arith, b.count, c.live.ensures, few)

pub need_by-requires-clause-heads : goal.need_by-requires-clause-heads
need_by-requires-clause-heads c =
    let fresh = ap (λ (s : SessionState). s.failed) c.self.view_is ∙ c.requires.fresh in
    let b = kept_bounds _ _ _ _ _ (c.self.invariant.kept fresh) in
    omega (arith, b.heads, c.self.invariant.bytes fresh, c.key_length.ensures.short)

pub need_by-requires-clause-count : goal.need_by-requires-clause-count
need_by-requires-clause-count c =
    let b = kept_bounds _ _ _ _ _ (c.self.invariant.kept (ap (λ (s : SessionState). s.failed) c.self.view_is ∙ c.requires.fresh)) in
    let few : c.match-list.more ≤ 2 = elim c.match-list.branch [
      | in-Some w ↦ omega (arith, w.more-is)
      | in-None w ↦ omega (arith, w.more-is)
    ] in
    omega (arith, b.count, c.live.ensures, few)

use Rattle.std.proofs.Common.{◌≡◌, ◌∙◌, ◌+◌, ℕ, ap, sym, arith}
use Rattle.rio_dir.specs.Table.{heads_size}
use Rattle.rio_chain.specs.Placing.{record_count}
use Rattle.rio_state.specs.Sizes.{close_size}
use Rattle.rio_session.specs.{Due.{due_of}, Session.{SessionState}}
use Rattle.rio_session.proofs.Needs.{kept_bounds, need_with_key}
use Rattle.rio_session.proofs.session.Session.need_with.Goals as goal

pub overflow_add-heads : goal.overflow_add-heads
overflow_add-heads c =
    let fresh = ap (λ (s : SessionState). s.failed) c.self.view_is ∙ c.requires.fresh in
    let b = kept_bounds _ _ _ _ _ (c.self.invariant.kept fresh) in
    omega (arith, b.heads, c.self.invariant.bytes fresh, c.key_length.ensures.short)

pub overflow_add-live : goal.overflow_add-live
overflow_add-live c =
    let fresh = ap (λ (s : SessionState). s.failed) c.self.view_is ∙ c.requires.fresh in
    let b = kept_bounds _ _ _ _ _ (c.self.invariant.kept fresh) in
    omega (arith, b.count, c.live-live.ensures)

pub need_by-requires-clause-heads : goal.need_by-requires-clause-heads
need_by-requires-clause-heads c =
    let fresh = ap (λ (s : SessionState). s.failed) c.self.view_is ∙ c.requires.fresh in
    let b = kept_bounds _ _ _ _ _ (c.self.invariant.kept fresh) in
    omega (arith, b.heads, c.self.invariant.bytes fresh, c.key_length.ensures.short)

pub need_by-requires-clause-count : goal.need_by-requires-clause-count
need_by-requires-clause-count c =
    let fresh = ap (λ (s : SessionState). s.failed) c.self.view_is ∙ c.requires.fresh in
    let b = kept_bounds _ _ _ _ _ (c.self.invariant.kept fresh) in
    omega (arith, b.count, c.live-live.ensures)

pub returns : goal.returns
returns c h sized class name =
    let s = c.args.self.now in
    let fresh = ap (λ (s : SessionState). s.failed) c.self.view_is ∙ c.requires.fresh in
    let heads = ap (λ (n : ℕ). n + c.key_length.result) (c.self.invariant.bytes fresh ∙ ap (λ (s : SessionState). heads_size s.heads) c.self.view_is) ∙ ap (λ (n : ℕ). heads_size s.heads + n) c.key_length.ensures.exact in
    let live = ap (λ (n : ℕ). n + 1) (c.live-live.ensures ∙ ap (λ (s : SessionState). record_count s.segments) c.self.view_is) in
    c.need_by.ensures
    ∙ (λ i. (due_of s.trees).bytes + close_size s.name (heads i) (live i + (due_of s.trees).baskets))
    ∙ sym (need_with_key s.name s.heads s.trees h c.args.class.now c.args.name.now (record_count s.segments + 1) sized class name)

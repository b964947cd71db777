use Rattle.std.proofs.Common.{◌≡◌, ◌∙◌, ◌+◌, ◌<◌, ◌≤◌, ◌^◌, ℕ, List, length, map, ap, sym, arith}
use Rattle.rio_chain.specs.Placing.{record_count}
use Rattle.rio_dir.specs.Table.{heads_size}
use Rattle.rio_state.specs.{Closing.{end_limit}, Sizes.{close_size}}
use Rattle.rio_session.specs.Session.{SessionState}
use Rattle.rio_session.proofs.{FillSums.{size_low}, Needs.{kept_bounds}}
use Rattle.rio_session.proofs.session.Session.need_behind.Goals as goal

pub overflow_add-live : goal.overflow_add-live
overflow_add-live c =
    let fresh = ap (λ (s : SessionState). s.failed) c.self.view_is ∙ c.requires.fresh in
    let b = kept_bounds _ _ _ _ _ (c.self.invariant.kept fresh) in
    omega (arith, b.count, c.live.ensures, c.requires.low)

pub overflow_add-count : goal.overflow_add-count
overflow_add-count c =
    let fresh = ap (λ (s : SessionState). s.failed) c.self.view_is ∙ c.requires.fresh in
    let b = kept_bounds _ _ _ _ _ (c.self.invariant.kept fresh) in
    omega (arith, b.count, c.live.ensures, c.requires.low)

pub close_length-size-requires-clause-heads : goal.close_length-size-requires-clause-heads
close_length-size-requires-clause-heads c =
    let fresh = ap (λ (s : SessionState). s.failed) c.self.view_is ∙ c.requires.fresh in
    let b = kept_bounds _ _ _ _ _ (c.self.invariant.kept fresh) in
    omega (arith, b.heads, c.self.invariant.bytes fresh)

pub close_length-size-requires-clause-live : goal.close_length-size-requires-clause-live
close_length-size-requires-clause-live c =
    let fresh = ap (λ (s : SessionState). s.failed) c.self.view_is ∙ c.requires.fresh in
    let b = kept_bounds _ _ _ _ _ (c.self.invariant.kept fresh) in
    omega (arith, b.count, c.live.ensures, c.requires.low)

pub overflow_add-result : goal.overflow_add-result
overflow_add-result c =
    let fresh = ap (λ (s : SessionState). s.failed) c.self.view_is ∙ c.requires.fresh in
    let kept = c.self.invariant.kept fresh in
    let b = kept_bounds _ _ _ _ _ kept in
    let few = size_low c.as_slice.result.now c.self.inside.heads_bytes (c.live.result + c.args.more + c.args.due.baskets) (omega (arith, kept.closable.short, ap length c.as_slice.ensures)) (omega (arith, b.heads, c.self.invariant.bytes fresh)) (omega (arith, b.count, c.live.ensures, c.requires.low)) in
    omega (arith, few, c.close_length-size.ensures, c.requires.low)

pub returns : goal.returns
returns c =
    let s = c.args.self.now in
    let fresh = ap (λ (s : SessionState). s.failed) c.self.view_is ∙ c.requires.fresh in
    let names = c.as_slice.ensures ∙ ap (λ (s : SessionState). s.name) c.self.view_is in
    let heads = c.self.invariant.bytes fresh ∙ ap (λ (s : SessionState). heads_size s.heads) c.self.view_is in
    let live = c.live.ensures ∙ ap (λ (s : SessionState). record_count s.segments) c.self.view_is in
    ap (λ (n : ℕ). c.args.due.bytes + n) c.close_length-size.ensures
    ∙ (λ i. c.args.due.bytes + close_size (names i) (heads i) (live i + c.args.more + c.args.due.baskets))

use Rattle.std.proofs.Common.{◌≡◌, ◌∙◌, ◌+◌, ◌-◌, ◌<◌, ◌≤◌, ◌^◌, ℕ, codes, List, Some, None, length, ap, sym, arith}
use Rattle.rio_key.specs.Written.{written_key}
use Rattle.rio_chain.specs.Placing.{record_count}
use Rattle.rio_dir.specs.Table.{head_of, heads_size}
use Rattle.rio_machine.specs.Limits.{head_length}
use Rattle.rio_judge.proofs.KeysOfState.{first_is_found}
use Rattle.rio_state.specs.{Closing.{end_limit}, Sizes.{close_size}}
use Rattle.rio_session.specs.Session.{SessionState}
use Rattle.rio_session.proofs.{FillSums.{size_low}, HeaderMade.{key_low}, KeepsGone.{bytes_less}, Needs.{kept_bounds}}
use Rattle.rio_session.proofs.session.Session.need_behind_save.Goals as goal

pub key_length-requires : goal.key_length-requires
key_length-requires c =
    let k = c.args.before.now in
    let fresh = ap (λ (s : SessionState). s.failed) c.self.view_is ∙ c.requires.fresh in
    let there = ap (λ (s : SessionState). head_of k.name None s.heads) c.self.view_is ∙ c.requires.there in
    let b = kept_bounds _ _ _ _ _ (c.self.invariant.kept fresh) in
    omega (arith, b.heads, bytes_less c.self.inside.table.heads k (first_is_found k.name c.self.inside.table.heads k there))

pub overflow_sub-others : goal.overflow_sub-others
overflow_sub-others c =
    let k = c.args.before.now in
    let fresh = ap (λ (s : SessionState). s.failed) c.self.view_is ∙ c.requires.fresh in
    let there = ap (λ (s : SessionState). head_of k.name None s.heads) c.self.view_is ∙ c.requires.there in
    omega (arith, c.self.invariant.bytes fresh, c.key_length.ensures, bytes_less c.self.inside.table.heads k (first_is_found k.name c.self.inside.table.heads k there))

pub overflow_add-heads : goal.overflow_add-heads
overflow_add-heads c =
    let fresh = ap (λ (s : SessionState). s.failed) c.self.view_is ∙ c.requires.fresh in
    let b = kept_bounds _ _ _ _ _ (c.self.invariant.kept fresh) in
    omega (arith, b.heads, c.self.invariant.bytes fresh, c.key_length-2.ensures.short)

pub overflow_add-live : goal.overflow_add-live
overflow_add-live c =
    let fresh = ap (λ (s : SessionState). s.failed) c.self.view_is ∙ c.requires.fresh in
    let b = kept_bounds _ _ _ _ _ (c.self.invariant.kept fresh) in
    omega (arith, b.count, c.live.ensures, c.requires.low)

pub overflow_add-count : goal.overflow_add-count
overflow_add-count c =
    let fresh = ap (λ (s : SessionState). s.failed) c.self.view_is ∙ c.requires.fresh in
    let b = kept_bounds _ _ _ _ _ (c.self.invariant.kept fresh) in
    omega (arith, b.count, c.live.ensures, c.requires.low)

pub close_length-size-requires-clause-heads : goal.close_length-size-requires-clause-heads
close_length-size-requires-clause-heads c =
    let fresh = ap (λ (s : SessionState). s.failed) c.self.view_is ∙ c.requires.fresh in
    let b = kept_bounds _ _ _ _ _ (c.self.invariant.kept fresh) in
    omega (arith, b.heads, c.self.invariant.bytes fresh, c.key_length-2.ensures.short)

pub close_length-size-requires-clause-live : goal.close_length-size-requires-clause-live
close_length-size-requires-clause-live c =
    let fresh = ap (λ (s : SessionState). s.failed) c.self.view_is ∙ c.requires.fresh in
    let b = kept_bounds _ _ _ _ _ (c.self.invariant.kept fresh) in
    omega (arith, b.count, c.live.ensures, c.requires.low)

pub overflow_add-result : goal.overflow_add-result
overflow_add-result c =
    let fresh = ap (λ (s : SessionState). s.failed) c.self.view_is ∙ c.requires.fresh in
    let kept = c.self.invariant.kept fresh in
    let b = kept_bounds _ _ _ _ _ kept in
    let heads = c.self.inside.heads_bytes - c.key_length.result + c.key_length-2.result in
    let few = size_low c.as_slice-2.result.now heads (c.live.result + c.args.more + c.args.due.baskets) (omega (arith, kept.closable.short, ap length c.as_slice-2.ensures))
    (omega (arith, b.heads, c.self.invariant.bytes fresh, c.key_length-2.ensures.short)) (omega (arith, b.count, c.live.ensures, c.requires.low)) in
    omega (arith, few, c.close_length-size.ensures, c.requires.low)

pub returns : goal.returns
returns c =
    let k = c.args.before.now in
    let fresh = ap (λ (s : SessionState). s.failed) c.self.view_is ∙ c.requires.fresh in
    let names = c.as_slice-2.ensures ∙ ap (λ (s : SessionState). s.name) c.self.view_is in
    let heads = c.self.invariant.bytes fresh ∙ ap (λ (s : SessionState). heads_size s.heads) c.self.view_is in
    let live = c.live.ensures ∙ ap (λ (s : SessionState). record_count s.segments) c.self.view_is in
    let own = c.key_length.ensures in
    let next = c.key_length-2.ensures.exact ∙ ap (head_length (codes "TTree")) c.as_slice.ensures in
    ap (λ (n : ℕ). c.args.due.bytes + n) c.close_length-size.ensures
    ∙ (λ i. c.args.due.bytes + close_size (names i) (heads i - own i + next i) (live i + c.args.more + c.args.due.baskets))

use Rattle.std.proofs.Common.{◌≡◌, ◌∙◌, ◌+◌, ℕ, length, ap, sym, arith}
use Rattle.std.proofs.lemmas.List.Sums.{sum-map}
use Rattle.rio_dir.specs.Table.{heads_size}
use Rattle.rio_chain.specs.Placing.{record_count}
use Rattle.rio_machine.specs.Limits.{head_length}
use Rattle.rio_state.specs.Sizes.{close_size}
use Rattle.rio_judge.specs.declared.work.StoredObject.{StoredObject}
use Rattle.rio_session.specs.{Due.{due_of}, Session.{SessionState}}
use Rattle.rio_session.proofs.{BatchCounts.{heads_length, need_with_all}, BatchMade.{keys_low, short_words}, Needs.{kept_bounds}}
use Rattle.rio_session.proofs.session.Session.need_with_all.Goals as goal

pub keys_length-requires-clause-short : goal.keys_length-requires-clause-short
keys_length-requires-clause-short c = short_words c.args.self.now.classes c.args.objects.now c.requires.stored

pub keys_length-requires-clause-low : goal.keys_length-requires-clause-low
keys_length-requires-clause-low c =
    let low = keys_low c.args.self.now.classes c.args.objects.now c.requires.stored in
    let few = c.requires.few in
    omega (arith, low, few)

pub overflow_add-heads : goal.overflow_add-heads
overflow_add-heads c =
    let fresh = ap (λ (s : SessionState). s.failed) c.self.view_is ∙ c.requires.fresh in
    let b = kept_bounds _ _ _ _ _ (c.self.invariant.kept fresh) in
    let low = keys_low c.args.self.now.classes c.args.objects.now c.requires.stored in
    omega (arith, b.heads, c.self.invariant.bytes fresh, c.keys_length.ensures, low, c.requires.few)

pub overflow_add-live : goal.overflow_add-live
overflow_add-live c =
    let fresh = ap (λ (s : SessionState). s.failed) c.self.view_is ∙ c.requires.fresh in
    let b = kept_bounds _ _ _ _ _ (c.self.invariant.kept fresh) in
    omega (arith, b.count, c.live.ensures, c.requires.few)

pub need_by-requires-clause-heads : goal.need_by-requires-clause-heads
need_by-requires-clause-heads c =
    let fresh = ap (λ (s : SessionState). s.failed) c.self.view_is ∙ c.requires.fresh in
    let b = kept_bounds _ _ _ _ _ (c.self.invariant.kept fresh) in
    let low = keys_low c.args.self.now.classes c.args.objects.now c.requires.stored in
    omega (arith, b.heads, c.self.invariant.bytes fresh, c.keys_length.ensures, low, c.requires.few)

pub need_by-requires-clause-count : goal.need_by-requires-clause-count
need_by-requires-clause-count c =
    let fresh = ap (λ (s : SessionState). s.failed) c.self.view_is ∙ c.requires.fresh in
    let b = kept_bounds _ _ _ _ _ (c.self.invariant.kept fresh) in
    omega (arith, b.count, c.live.ensures, c.requires.few)

pub returns : goal.returns
returns c hs are =
    let s = c.args.self.now in
    let os = c.args.objects.now in
    let fresh = ap (λ (s : SessionState). s.failed) c.self.view_is ∙ c.requires.fresh in
    let long : c.keys_length.result ≡ heads_length os = c.keys_length.ensures ∙ sym (sum-map (λ (o : StoredObject). head_length o.class o.name) os) in
    let heads = ap (λ (n : ℕ). n + c.keys_length.result) (c.self.invariant.bytes fresh ∙ ap (λ (s : SessionState). heads_size s.heads) c.self.view_is) ∙ ap (λ (n : ℕ). heads_size s.heads + n) long in
    let live = ap (λ (n : ℕ). n + length os) (c.live.ensures ∙ ap (λ (s : SessionState). record_count s.segments) c.self.view_is) in
    c.need_by.ensures
    ∙ (λ i. (due_of s.trees).bytes + close_size s.name (heads i) (live i + (due_of s.trees).baskets))
    ∙ sym (need_with_all s.name s.heads s.trees hs os (record_count s.segments + length os) are)

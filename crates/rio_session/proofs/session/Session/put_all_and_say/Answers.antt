use Rattle.std.proofs.{Common.{◌∙◌, ◌≤◌, inl, List, length, map, ap, sym, subst, refl, arith}, lemmas.Result.{err_from_is_err_and}}
use Rattle.rio_key.specs.declared.head.KeyHead.{KeyHead}
use Rattle.rio_dir.specs.Table.{TableRoom, heads_size, with_heads}
use Rattle.rio_chain.specs.{Batches.{cut_by}, Chains.{ChainState, HasChain}, Changes.{with_records}, Placing.{file_end, place_of, with_segments}, declared.segment.Segment.{Segment}}
use Rattle.rio_state.specs.Closing.{end_limit}
use Rattle.rio_recover.specs.Whole.{HoldsDirectory}
use Rattle.rio_session.specs.{Due.{IsClosableWith}, Fills.{bare_tree}, Puts.{AreNewKeys, putting_all}, Session.{SessionState}}
use Rattle.rio_session.proofs.{BatchCounts.{size_with_all}, BatchKept.{directory_stays_all, ends_low, key_bytes_all, kept_put_all, stored_all_is}}
use Rattle.rio_session.proofs.ChangeMoments.{changed_and_said, changed_not_said, not_said, one_in_time, one_reached}
use Rattle.rio_session.proofs.session.Session.put_all_and_say.Goals as goal

pub heads_length-added-requires : goal.heads_length-added-requires
heads_length-added-requires g c = omega (arith, key_bytes_all c.args.self.now c.args.made c.requires.can, ap heads_size c.deref.ensures.value)

pub overflow_add-sum : goal.overflow_add-sum
overflow_add-sum g c =
    let bytes = c.self.invariant.bytes (ap (λ (s : SessionState). s.failed) c.self.view_is ∙ c.requires.fresh) in
    omega (arith, key_bytes_all c.args.self.now c.args.made c.requires.can, bytes, ap (λ (s : SessionState). heads_size s.heads) c.self.view_is, c.heads_length-added.ensures, ap heads_size c.deref.ensures.value)

pub put_batch-requires-clause-place : goal.put_batch-requires-clause-place
put_batch-requires-clause-place g c =
    let made = c.args.made in
    let same = ap (λ (x : SessionState). x.segments) (sym c.self.view_is) ∙ sym (ap (λ (x : ChainState). x.segments) c.in_ok-reserve.ensures.ok) in
    inl (c.requires.can.place ∙ ap (λ (x : List Segment). place_of x (length made.records.bytes)) same)

pub put_batch-requires-clause-low : goal.put_batch-requires-clause-low
put_batch-requires-clause-low g c =
    let made = c.args.made in
    let same = ap (λ (x : SessionState). x.segments) (sym c.self.view_is) ∙ sym (ap (λ (x : ChainState). x.segments) c.in_ok-reserve.ensures.ok) in
    subst (λ (x : List Segment). file_end (with_segments made.place made.lengths x) ≤ end_limit) same (ends_low c.args.self.now made c.requires.can)

pub insert_all-requires-clause-new : goal.insert_all-requires-clause-new
insert_all-requires-clause-new g c =
    let made = c.args.made in
    let same = ap (λ (x : SessionState). x.heads) (sym c.self.view_is) ∙ sym (ap (λ (t : TableRoom). t.heads) c.in_ok-reserve-2.ensures.ok) in
    subst (λ (x : List KeyHead). AreNewKeys x made.heads.items) same c.requires.can.new

pub invariant_of-self-in-Ok : goal.invariant_of-self-in-Ok
invariant_of-self-in-Ok g c =
    let n = c.args.made in
    let segments = ap (λ (s : ChainState). s.segments) c.in-Ok.ensures.chain ∙ ap (λ (s : ChainState). with_segments n.place n.lengths s.segments) c.in_ok-reserve.ensures.ok in
    let heads = c.insert_all.ensures ∙ ap (λ (t : TableRoom). with_heads n.heads.items t.heads) c.in_ok-reserve-2.ensures.ok in
    record {
      classes = c.self.invariant.classes;
      listed = c.self.invariant.listed;
      kept = λ fresh. kept_put_all c.args.self.now n c.requires.can c.self.inside.chain.segments _ c.self.inside.table.heads _ (map bare_tree c.self.inside.filled.trees) c.self.inside.info c.self.inside.name c.in_ok-reserve.ensures.shape (c.self.invariant.kept fresh)
          (ap (λ (s : SessionState). s.segments) (sym c.self.view_is)) (ap (λ (s : SessionState). s.heads) (sym c.self.view_is)) (ap (λ (s : SessionState). s.trees) (sym c.self.view_is)) (ap (λ (s : SessionState). s.name) (sym c.self.view_is))
          segments heads;
      fresh = λ fresh. ap (λ (s : ChainState). s.spent) c.in-Ok.ensures.chain ∙ ap (λ (s : ChainState). s.spent) c.in_ok-reserve.ensures.ok ∙ c.self.invariant.fresh fresh;
      trees = c.self.invariant.trees;
      due = λ fresh. c.self.invariant.due fresh;
      bytes = λ fresh. omega (arith, ap heads_size heads, size_with_all n.heads.items c.self.inside.table.heads, c.self.invariant.bytes fresh, c.heads_length-added.ensures, ap heads_size c.deref.ensures.value);
      directory = λ fresh. directory_stays_all c.self.inside.nbytes_name n.place n.lengths c.self.inside.chain.segments _ segments (c.self.invariant.directory fresh);
    }

pub invariant_of-self-in_err-reserve-2 : goal.invariant_of-self-in_err-reserve-2
invariant_of-self-in_err-reserve-2 g c =
    let chain = c.in_ok-reserve.ensures.ok in
    let table = c.in_err-reserve-2.ensures.err.heads in
    record {
      classes = c.self.invariant.classes;
      listed = c.self.invariant.listed;
      kept = λ fresh. subst (λ (x : List Segment × List KeyHead). IsClosableWith x.0 x.1 (map bare_tree c.self.inside.filled.trees) c.self.inside.info c.self.inside.name)
          (λ i. (ap (λ (s : ChainState). s.segments) (sym chain) i, sym table i)) (c.self.invariant.kept fresh);
      fresh = λ fresh. ap (λ (s : ChainState). s.spent) chain ∙ c.self.invariant.fresh fresh;
      trees = c.self.invariant.trees;
      due = λ fresh. c.self.invariant.due fresh;
      bytes = λ fresh. c.self.invariant.bytes fresh ∙ ap heads_size (sym table);
      directory = λ fresh. subst (HoldsDirectory c.self.inside.nbytes_name) (ap (λ (s : ChainState). s.segments) (sym chain)) (c.self.invariant.directory fresh);
    }

pub returns-clause-changes : goal.returns-clause-changes
returns-clause-changes g c =
    let s = c.args.self.now in
    let n = c.args.made in
    let same = ap (λ (x : SessionState). x.segments) (sym c.self.view_is) ∙ sym (ap (λ (x : ChainState). x.segments) c.in_ok-reserve.ensures.ok) in
    let p = putting_all s n c.args.text.now c.args.cost in
    record {
      time = one_in_time (with_records n.place (cut_by n.lengths n.records.bytes)) p.kept c.args.text.now c.args.cost (g.H.Host.view c.args.host.now) (g.H.Host.view c.put_batch.new.host) s
          (λ file links holds chain. c.put_batch.ensures.any_moment file links holds (subst (λ (x : List Segment). HasChain links x file) same chain));
      told = c.put_batch.ensures.writes.told;
      said = c.put_batch.ensures.writes.said;
      faults = (c.in-Err.ensures.cause.rose refl, c.put_batch.ensures.writes.say_faults);
      failed = refl;
    }

pub returns-in_err-answer-in-Ok-clause-changes : goal.returns-in_err-answer-in-Ok-clause-changes
returns-in_err-answer-in-Ok-clause-changes g c =
    let s = c.args.self.now in
    let n = c.args.made in
    let same = ap (λ (x : SessionState). x.segments) (sym c.self.view_is) ∙ sym (ap (λ (x : ChainState). x.segments) c.in_ok-reserve.ensures.ok) in
    let p = putting_all s n c.args.text.now c.args.cost in
    let change = with_records n.place (cut_by n.lengths n.records.bytes) in
    let q = err_from_is_err_and c.from_residual-in_err-answer-in-Ok.result c.from_residual-in_err-answer-in-Ok.ensures.1 in
    let unsaid = not_said (Unit {0}) c.args.text.now c.args.cost _ _ _ _ c.in_err-answer-in-Ok.field-0.0 c.in_err-answer-in-Ok.ensures.fault c.in_err-answer-in-Ok.ensures.says in
    rw (q.1, q.2, c.in_err-answer-in-Ok.ensures.fault) (changed_not_said p (g.H.Host.view c.args.host.now) (g.H.Host.view c.put_batch.new.host) s _
    (one_in_time change p.kept c.args.text.now c.args.cost (g.H.Host.view c.args.host.now) (g.H.Host.view c.put_batch.new.host) s
    (λ file links holds chain. c.put_batch.ensures.any_moment file links holds (subst (λ (x : List Segment). HasChain links x file) same chain)))
    (one_reached change p.kept c.args.text.now c.args.cost (g.H.Host.view c.args.host.now) (g.H.Host.view c.put_batch.new.host) s)
    (g.met.H.Host.lawful c.put_batch.new.host) c.in-Ok.ensures.quiet c.put_batch.ensures.writes.said
    (stored_all_is s _ c.put_batch.new.self.segments c.insert_all.new.table.heads n.place n.lengths n.heads.items c.self.view_is
    (ap (λ (x : ChainState). x.segments) c.in-Ok.ensures.chain ∙ ap (λ (x : ChainState). with_segments n.place n.lengths x.segments) c.in_ok-reserve.ensures.ok)
    (c.insert_all.ensures ∙ ap (λ (t : TableRoom). with_heads n.heads.items t.heads) c.in_ok-reserve-2.ensures.ok))
    (λ file links holds chain. c.in-Ok.ensures.holds file links holds (subst (λ (x : List Segment). HasChain links x file) same chain))
    (g.H.Host.view c.answer.new.host) c.answer.new.self (g.met.H.Host.lawful c.answer.new.host) unsaid c.put_batch.ensures.writes.told (c.in-Ok.ensures.cause.counted refl, c.put_batch.ensures.writes.say_faults))

pub returns-in-Ok-clause-changes : goal.returns-in-Ok-clause-changes
returns-in-Ok-clause-changes g c =
    let s = c.args.self.now in
    let n = c.args.made in
    let same = ap (λ (x : SessionState). x.segments) (sym c.self.view_is) ∙ sym (ap (λ (x : ChainState). x.segments) c.in_ok-reserve.ensures.ok) in
    let p = putting_all s n c.args.text.now c.args.cost in
    let change = with_records n.place (cut_by n.lengths n.records.bytes) in
    changed_and_said p (g.H.Host.view c.args.host.now) (g.H.Host.view c.put_batch.new.host) s _
    (one_in_time change p.kept c.args.text.now c.args.cost (g.H.Host.view c.args.host.now) (g.H.Host.view c.put_batch.new.host) s
    (λ file links holds chain. c.put_batch.ensures.any_moment file links holds (subst (λ (x : List Segment). HasChain links x file) same chain)))
    (one_reached change p.kept c.args.text.now c.args.cost (g.H.Host.view c.args.host.now) (g.H.Host.view c.put_batch.new.host) s)
    (g.met.H.Host.lawful c.put_batch.new.host) c.in-Ok.ensures.quiet c.put_batch.ensures.writes.said
    (stored_all_is s _ c.put_batch.new.self.segments c.insert_all.new.table.heads n.place n.lengths n.heads.items c.self.view_is
    (ap (λ (x : ChainState). x.segments) c.in-Ok.ensures.chain ∙ ap (λ (x : ChainState). with_segments n.place n.lengths x.segments) c.in_ok-reserve.ensures.ok)
    (c.insert_all.ensures ∙ ap (λ (t : TableRoom). with_heads n.heads.items t.heads) c.in_ok-reserve-2.ensures.ok))
    (λ file links holds chain. c.in-Ok.ensures.holds file links holds (subst (λ (x : List Segment). HasChain links x file) same chain))
    (g.H.Host.view c.answer.new.host) c.answer.new.self (g.met.H.Host.lawful c.answer.new.host) c.in_ok-answer-in-Ok.ensures.says c.put_batch.ensures.writes.told (c.in-Ok.ensures.cause.counted refl, c.put_batch.ensures.writes.say_faults)

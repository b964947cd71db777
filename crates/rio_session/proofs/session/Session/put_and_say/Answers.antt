use Rattle.std.proofs.{Common.{◌∙◌, List, length, map, ap, sym, subst, refl, arith}, lemmas.Result.{err_from_is_err_and}}
use Rattle.rio_key.specs.declared.head.KeyHead.{KeyHead}
use Rattle.rio_dir.specs.Table.{TableRoom, heads_size, with_head}
use Rattle.rio_chain.specs.{Chains.{ChainState, HasChain}, Changes.{with_record}, Placing.{with_segment}, declared.segment.Segment.{Segment}}
use Rattle.rio_recover.specs.Whole.{HoldsDirectory}
use Rattle.rio_session.specs.{Due.{IsClosableWith}, Fills.{bare_tree}, Puts.{putting}, Session.{SessionState}}
use Rattle.rio_session.proofs.{CloseRoom.{directory_stays}, Keeps.{size_with}, KeepsTrees.{kept_put}, Needs.{key_bytes}}
use Rattle.rio_session.proofs.{ChangeMoments.{changed_and_said, changed_not_said, not_said, one_in_time, one_reached}, PutFacts.{stored_is}}
use Rattle.rio_session.proofs.session.Session.put_and_say.Goals.{in-Heap-9, in-Inline-9}
use Rattle.rio_session.proofs.session.Session.put_and_say.Goals as goal

pub key_length-added-requires : goal.key_length-added-requires
key_length-added-requires g c = omega (arith, key_bytes c.args.self.now c.args.made c.requires.can)

pub overflow_add-sum : goal.overflow_add-sum
overflow_add-sum g c =
    let bytes = c.self.invariant.bytes (ap (λ (s : SessionState). s.failed) c.self.view_is ∙ c.requires.fresh) in
    omega (arith, key_bytes c.args.self.now c.args.made c.requires.can, bytes, ap (λ (s : SessionState). heads_size s.heads) c.self.view_is, c.key_length-added.ensures)

pub invariant_of-self-in-Ok : goal.invariant_of-self-in-Ok
invariant_of-self-in-Ok g c =
    let n = c.args.made in
    record {
      classes = c.self.invariant.classes;
      listed = c.self.invariant.listed;
      kept = λ fresh. kept_put c.args.self.now n c.self.inside.chain.segments _ c.self.inside.table.heads _ (map bare_tree c.self.inside.filled.trees) c.self.inside.info c.self.inside.name c.requires.can c.in_ok-reserve.ensures.shape (c.self.invariant.kept fresh)
          (ap (λ (s : SessionState). s.segments) (sym c.self.view_is)) (ap (λ (s : SessionState). s.heads) (sym c.self.view_is)) (ap (λ (s : SessionState). s.trees) (sym c.self.view_is)) (ap (λ (s : SessionState). s.name) (sym c.self.view_is))
          (ap (λ (s : ChainState). s.segments) c.in-Ok.ensures.chain ∙ ap (λ (s : ChainState). with_segment n.head.seek (length n.bytes.bytes) s.segments) c.in_ok-reserve.ensures.ok)
          (ap (λ (t : TableRoom). t.heads) c.insert.ensures ∙ ap (λ (t : TableRoom). with_head n.head t.heads) c.in_ok-reserve_one.ensures.ok);
      fresh = λ fresh. ap (λ (s : ChainState). s.spent) c.in-Ok.ensures.chain ∙ ap (λ (s : ChainState). s.spent) c.in_ok-reserve.ensures.ok ∙ c.self.invariant.fresh fresh;
      trees = c.self.invariant.trees;
      due = λ fresh. c.self.invariant.due fresh;
      bytes = λ fresh.
          let more = ap (λ (t : TableRoom). t.heads) c.insert.ensures ∙ ap (λ (t : TableRoom). with_head n.head t.heads) c.in_ok-reserve_one.ensures.ok in
          omega (arith, ap heads_size more, size_with n.head c.self.inside.table.heads, c.self.invariant.bytes fresh, c.key_length-added.ensures);
      directory = λ fresh. directory_stays c.self.inside.nbytes_name n.head.seek (length n.bytes.bytes) c.self.inside.chain.segments _
          (ap (λ (s : ChainState). s.segments) c.in-Ok.ensures.chain ∙ ap (λ (s : ChainState). with_segment n.head.seek (length n.bytes.bytes) s.segments) c.in_ok-reserve.ensures.ok) (c.self.invariant.directory fresh);
    }

pub invariant_of-self-in_err-reserve_one : goal.invariant_of-self-in_err-reserve_one
invariant_of-self-in_err-reserve_one g c =
    let chain = c.in_ok-reserve.ensures.ok in
    let table = c.in_err-reserve_one.ensures.err.0 in
    record {
      classes = c.self.invariant.classes;
      listed = c.self.invariant.listed;
      kept = λ fresh. subst (λ (x : List Segment × List KeyHead). IsClosableWith x.0 x.1 (map bare_tree c.self.inside.filled.trees) c.self.inside.info c.self.inside.name)
          (λ i. (ap (λ (s : ChainState). s.segments) (sym chain) i, ap (λ (t : TableRoom). t.heads) (sym table) i)) (c.self.invariant.kept fresh);
      fresh = λ fresh. ap (λ (s : ChainState). s.spent) chain ∙ c.self.invariant.fresh fresh;
      trees = c.self.invariant.trees;
      due = λ fresh. c.self.invariant.due fresh;
      bytes = λ fresh. c.self.invariant.bytes fresh ∙ ap (λ (t : TableRoom). heads_size t.heads) (sym table);
      directory = λ fresh. subst (HoldsDirectory c.self.inside.nbytes_name) (ap (λ (s : ChainState). s.segments) (sym chain)) (c.self.invariant.directory fresh);
    }

pub returns-in-Err-clause-changes : goal.returns-in-Err-clause-changes
returns-in-Err-clause-changes g c =
    let s = c.args.self.now in
    let n = c.args.made in
    let same = ap (λ (x : SessionState). x.segments) (sym c.self.view_is) ∙ sym (ap (λ (x : ChainState). x.segments) c.in_ok-reserve.ensures.ok) in
    let p = putting s n c.args.text.now c.args.cost in
    record {
      time = one_in_time (with_record n.head.seek n.bytes.bytes) p.kept c.args.text.now c.args.cost (g.H.Host.view c.args.host.now) (g.H.Host.view c.put_record.new.host) s
          (λ file links holds chain. c.put_record.ensures.any_moment file links holds (subst (λ (x : List Segment). HasChain links x file) same chain));
      told = c.put_record.ensures.writes.told;
      said = c.put_record.ensures.writes.said;
      faults = (c.in-Err.ensures.cause.rose refl, c.put_record.ensures.writes.say_faults);
      failed = elim c.match-head-3.branch [
        | in-Heap-9 w ↦ ap (λ (s : SessionState). s.failed) w.self-is
        | in-Inline-9 w ↦ ap (λ (s : SessionState). s.failed) w.self-is
      ];
    }

pub returns-in_err-answer-in-Ok-clause-changes : goal.returns-in_err-answer-in-Ok-clause-changes
returns-in_err-answer-in-Ok-clause-changes g c =
    let s = c.args.self.now in
    let n = c.args.made in
    let same = ap (λ (x : SessionState). x.segments) (sym c.self.view_is) ∙ sym (ap (λ (x : ChainState). x.segments) c.in_ok-reserve.ensures.ok) in
    let p = putting s n c.args.text.now c.args.cost in
    let q = err_from_is_err_and c.from_residual-in_err-answer-in-Ok.result c.from_residual-in_err-answer-in-Ok.ensures.1 in
    let unsaid = not_said (Unit {0}) c.args.text.now c.args.cost _ _ _ _ c.in_err-answer-in-Ok.field-0.0 c.in_err-answer-in-Ok.ensures.fault c.in_err-answer-in-Ok.ensures.says in
    rw (q.1, q.2, c.in_err-answer-in-Ok.ensures.fault) (changed_not_said p (g.H.Host.view c.args.host.now) (g.H.Host.view c.put_record.new.host) s _
    (one_in_time (with_record n.head.seek n.bytes.bytes) p.kept c.args.text.now c.args.cost (g.H.Host.view c.args.host.now) (g.H.Host.view c.put_record.new.host) s
    (λ file links holds chain. c.put_record.ensures.any_moment file links holds (subst (λ (x : List Segment). HasChain links x file) same chain)))
    (one_reached (with_record n.head.seek n.bytes.bytes) p.kept c.args.text.now c.args.cost (g.H.Host.view c.args.host.now) (g.H.Host.view c.put_record.new.host) s)
    (g.met.H.Host.lawful c.put_record.new.host) c.in-Ok.ensures.quiet c.put_record.ensures.writes.said
    (stored_is s _ c.put_record.new.self.segments c.insert.new.self.heads n.head.seek (length n.bytes.bytes) n.head c.self.view_is
    (ap (λ (x : ChainState). x.segments) c.in-Ok.ensures.chain ∙ ap (λ (x : ChainState). with_segment n.head.seek (length n.bytes.bytes) x.segments) c.in_ok-reserve.ensures.ok)
    (ap (λ (t : TableRoom). t.heads) c.insert.ensures ∙ ap (λ (t : TableRoom). with_head n.head t.heads) c.in_ok-reserve_one.ensures.ok))
    (λ file links holds chain. c.in-Ok.ensures.holds file links holds (subst (λ (x : List Segment). HasChain links x file) same chain))
    (g.H.Host.view c.answer.new.host) c.answer.new.self (g.met.H.Host.lawful c.answer.new.host) unsaid c.put_record.ensures.writes.told (c.in-Ok.ensures.cause.counted refl, c.put_record.ensures.writes.say_faults))

pub returns-in_ok-answer-in-Ok-clause-changes : goal.returns-in_ok-answer-in-Ok-clause-changes
returns-in_ok-answer-in-Ok-clause-changes g c =
    let s = c.args.self.now in
    let n = c.args.made in
    let same = ap (λ (x : SessionState). x.segments) (sym c.self.view_is) ∙ sym (ap (λ (x : ChainState). x.segments) c.in_ok-reserve.ensures.ok) in
    let p = putting s n c.args.text.now c.args.cost in
    changed_and_said p (g.H.Host.view c.args.host.now) (g.H.Host.view c.put_record.new.host) s _
    (one_in_time (with_record n.head.seek n.bytes.bytes) p.kept c.args.text.now c.args.cost (g.H.Host.view c.args.host.now) (g.H.Host.view c.put_record.new.host) s
    (λ file links holds chain. c.put_record.ensures.any_moment file links holds (subst (λ (x : List Segment). HasChain links x file) same chain)))
    (one_reached (with_record n.head.seek n.bytes.bytes) p.kept c.args.text.now c.args.cost (g.H.Host.view c.args.host.now) (g.H.Host.view c.put_record.new.host) s)
    (g.met.H.Host.lawful c.put_record.new.host) c.in-Ok.ensures.quiet c.put_record.ensures.writes.said
    (stored_is s _ c.put_record.new.self.segments c.insert.new.self.heads n.head.seek (length n.bytes.bytes) n.head c.self.view_is
    (ap (λ (x : ChainState). x.segments) c.in-Ok.ensures.chain ∙ ap (λ (x : ChainState). with_segment n.head.seek (length n.bytes.bytes) x.segments) c.in_ok-reserve.ensures.ok)
    (ap (λ (t : TableRoom). t.heads) c.insert.ensures ∙ ap (λ (t : TableRoom). with_head n.head t.heads) c.in_ok-reserve_one.ensures.ok))
    (λ file links holds chain. c.in-Ok.ensures.holds file links holds (subst (λ (x : List Segment). HasChain links x file) same chain))
    (g.H.Host.view c.answer.new.host) c.answer.new.self (g.met.H.Host.lawful c.answer.new.host) c.in_ok-answer-in-Ok.ensures.says c.put_record.ensures.writes.told (c.in-Ok.ensures.cause.counted refl, c.put_record.ensures.writes.say_faults)

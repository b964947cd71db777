use Rattle.std.proofs.{Common.{◌≡◌, ◌∙◌, ◌∷◌, length, refl, sym, ap, subst}, lemmas.Result.{err_from_is_err_and}}
use Rattle.rio_chain.specs.{Chains.{ChainState}, Changes.{with_record}, Placing.{with_segment}}
use Rattle.rio_session.specs.{Kept.{released_link, released_segment}, Lists.{CanReplace, listing}, SessionState.{SessionState}}
use Rattle.rio_session.proofs.ChangeMoments.{changed_and_said, changed_not_said, not_said}
use Rattle.rio_session.proofs.{KeepsList.{listed_is, replaced_directory, replaced_kept, replaced_later, replaced_there}, Moments.{all_held, all_reached}}
use Rattle.rio_session.proofs.session.Session.replace_list.Goals.{in-Heap-8, in-Inline-8}
use Rattle.rio_session.proofs.session.Session.replace_list.Goals as goal

pub put_and_release-requires-clause-there : goal.put_and_release-requires-clause-there
put_and_release-requires-clause-there g c =
    let fresh = ap (λ (s : SessionState). s.failed) c.self.view_is ∙ c.requires.fresh in
    let can = subst (λ (s : SessionState). CanReplace s c.args.made) (sym c.self.view_is) c.requires.can in
    replaced_there _ c.args.made can c.in_ok-reserve.ensures.shape (c.self.invariant.kept fresh) _ (ap (λ (s : ChainState). s.segments) c.in_ok-reserve.ensures.ok)

pub put_and_release-requires-clause-later : goal.put_and_release-requires-clause-later
put_and_release-requires-clause-later g c =
    let fresh = ap (λ (s : SessionState). s.failed) c.self.view_is ∙ c.requires.fresh in
    let can = subst (λ (s : SessionState). CanReplace s c.args.made) (sym c.self.view_is) c.requires.can in
    replaced_later _ c.args.made can c.in_ok-reserve.ensures.shape (c.self.invariant.kept fresh)

pub invariant_of-self-in-Ok : goal.invariant_of-self-in-Ok
invariant_of-self-in-Ok g c =
    let n = c.args.made in
    let can = subst (λ (s : SessionState). CanReplace s n) (sym c.self.view_is) c.requires.can in
    let shape = c.in_ok-reserve.ensures.shape in
    let is : c.put_and_release.new.chain.segments ≡ released_segment c.self.inside.info (with_segment n.head.seek (length n.bytes.bytes) c.self.inside.chain.segments) =
    c.in-Ok.ensures.chain ∙ ap (λ (x : ChainState). released_segment c.self.inside.info (with_segment n.head.seek (length n.bytes.bytes) x.segments)) c.in_ok-reserve.ensures.ok in
    record {
      classes = c.self.invariant.classes;
      listed = can.cycle;
      kept = λ fresh. replaced_kept _ n can shape (c.self.invariant.kept fresh) _ is;
      fresh = λ fresh. c.in-Ok.ensures.fresh;
      trees = c.self.invariant.trees;
      due = λ fresh. c.self.invariant.due fresh;
      bytes = λ fresh. c.self.invariant.bytes fresh;
      directory = λ fresh. replaced_directory _ n can shape (c.self.invariant.kept fresh) _ is (c.self.invariant.directory fresh);
    }

pub returns-in-Err-clause-changes : goal.returns-in-Err-clause-changes
returns-in-Err-clause-changes g c =
    let s = c.args.self.now in
    let n = c.args.made in
    let own = ap (λ (x : SessionState). x.segments) (sym c.self.view_is) ∙ sym (ap (λ (x : ChainState). x.segments) c.in_ok-reserve.ensures.ok) in
    let p = listing s n c.args.text.now c.args.cost in
    let changes = ap (λ (x : SessionState). with_record n.head.seek n.bytes.bytes ∷ released_link x.info) (sym c.self.view_is) in
    record {
      time = c.put_and_release.ensures.any_moment p s own changes;
      told = c.put_and_release.ensures.writes.told;
      said = c.put_and_release.ensures.writes.said;
      faults = (c.in-Err.ensures.cause.rose refl, c.put_and_release.ensures.writes.say_faults);
      failed = elim c.match-head-3.branch [
        | in-Heap-8 w ↦ ap (λ (x : SessionState). x.failed) w.self-is
        | in-Inline-8 w ↦ ap (λ (x : SessionState). x.failed) w.self-is
      ];
    }

pub returns-in_err-answer-in-Ok-clause-changes : goal.returns-in_err-answer-in-Ok-clause-changes
returns-in_err-answer-in-Ok-clause-changes g c =
    let s = c.args.self.now in
    let n = c.args.made in
    let old = g.H.Host.view c.args.host.now in
    let mid = g.H.Host.view c.put_and_release.new.host in
    let own = ap (λ (x : SessionState). x.segments) (sym c.self.view_is) ∙ sym (ap (λ (x : ChainState). x.segments) c.in_ok-reserve.ensures.ok) in
    let p = listing s n c.args.text.now c.args.cost in
    let changes = ap (λ (x : SessionState). with_record n.head.seek n.bytes.bytes ∷ released_link x.info) (sym c.self.view_is) in
    let is : c.put_and_release.new.chain.segments ≡ released_segment c.self.inside.info (with_segment n.head.seek (length n.bytes.bytes) c.self.inside.chain.segments) =
    c.in-Ok.ensures.chain ∙ ap (λ (x : ChainState). released_segment c.self.inside.info (with_segment n.head.seek (length n.bytes.bytes) x.segments)) c.in_ok-reserve.ensures.ok in
    let u = c.in-Ok.ensures.done p s own changes in
    let q = err_from_is_err_and c.from_residual-in_err-answer-in-Ok.result c.from_residual-in_err-answer-in-Ok.ensures.1 in
    let unsaid = not_said (Unit {0}) c.args.text.now c.args.cost _ _ _ _ c.in_err-answer-in-Ok.field-0.0 c.in_err-answer-in-Ok.ensures.fault c.in_err-answer-in-Ok.ensures.says in
    rw (q.1, q.2, c.in_err-answer-in-Ok.ensures.fault) (changed_not_said p old mid s _ u.time (all_reached p (length p.changes) old mid s _ u refl)
    (g.met.H.Host.lawful c.put_and_release.new.host) c.in-Ok.ensures.quiet u.said
    (listed_is s _ c.put_and_release.new.chain.segments n.head.seek (length n.bytes.bytes) n.head c.self.view_is is)
    (all_held p (length p.changes) old mid s _ u refl)
    (g.H.Host.view c.answer.new.host) c.answer.new.self (g.met.H.Host.lawful c.answer.new.host) unsaid u.told u.faults)

pub returns-in_ok-answer-in-Ok-clause-changes : goal.returns-in_ok-answer-in-Ok-clause-changes
returns-in_ok-answer-in-Ok-clause-changes g c =
    let s = c.args.self.now in
    let n = c.args.made in
    let old = g.H.Host.view c.args.host.now in
    let mid = g.H.Host.view c.put_and_release.new.host in
    let own = ap (λ (x : SessionState). x.segments) (sym c.self.view_is) ∙ sym (ap (λ (x : ChainState). x.segments) c.in_ok-reserve.ensures.ok) in
    let p = listing s n c.args.text.now c.args.cost in
    let changes = ap (λ (x : SessionState). with_record n.head.seek n.bytes.bytes ∷ released_link x.info) (sym c.self.view_is) in
    let is : c.put_and_release.new.chain.segments ≡ released_segment c.self.inside.info (with_segment n.head.seek (length n.bytes.bytes) c.self.inside.chain.segments) =
    c.in-Ok.ensures.chain ∙ ap (λ (x : ChainState). released_segment c.self.inside.info (with_segment n.head.seek (length n.bytes.bytes) x.segments)) c.in_ok-reserve.ensures.ok in
    let u = c.in-Ok.ensures.done p s own changes in
    changed_and_said p old mid s _ u.time (all_reached p (length p.changes) old mid s _ u refl)
    (g.met.H.Host.lawful c.put_and_release.new.host) c.in-Ok.ensures.quiet u.said
    (listed_is s _ c.put_and_release.new.chain.segments n.head.seek (length n.bytes.bytes) n.head c.self.view_is is)
    (all_held p (length p.changes) old mid s _ u refl)
    (g.H.Host.view c.answer.new.host) c.answer.new.self (g.met.H.Host.lawful c.answer.new.host) c.in_ok-answer-in-Ok.ensures.says u.told u.faults

use Rattle.std.proofs.{Common.{◌≡◌, ◌∙◌, ℕ, List, Some, refl, sym, ap, subst, arith, length, map}, lemmas.Result.{err_from_is_err_and}}
use Rattle.rio_dir.specs.Table.{TableRoom, head_of, heads_size, without_head}
use Rattle.rio_chain.specs.{Adjoining.{AreSegments}, Chains.{ChainState}, Changes.{without_record}, declared.segment.Segment.{Segment}}
use Rattle.rio_tree_table.specs.{Table.{without_tree as without_kept}}
use Rattle.rio_recover.specs.Cleaning.{without_segments}
use Rattle.rio_session.specs.{Due.{due_of}, Fills.{FilledRoom, bare_tree, places_of_trees, without_filled}, Kept.{released_by}, Releases.{AreReleasable, deleting}, Session.{SessionState}}
use Rattle.rio_session.proofs.ChangeMoments.{changed_and_said, changed_not_said, not_said}
use Rattle.rio_session.proofs.{Bare.{all_due}, DeleteMade.{bare_left, deleted_directory, deleted_is, deleted_kept, trees_left}, KeepsGone.{bytes_less, heads_low}, Moments.{all_held, all_reached}}
use Rattle.rio_session.proofs.session.Session.release_and_say.Goals as goal

pub key_length-requires : goal.key_length-requires
key_length-requires g c =
    let fresh = ap (λ (s : SessionState). s.failed) c.self.view_is ∙ c.requires.fresh in
    let h = c.args.head.now in
    let found : head_of h.name (Some h.cycle) c.self.inside.table.heads ≡ Some h = ap (λ (s : SessionState). head_of h.name (Some h.cycle) s.heads) c.self.view_is ∙ c.requires.there in
    let low = heads_low c.self.inside.chain.segments c.self.inside.table.heads c.self.inside.info (places_of_trees (map bare_tree c.self.inside.filled.trees)) c.self.inside.name (c.self.invariant.kept fresh).closable in
    omega (arith, low, bytes_less c.self.inside.table.heads h found)

pub overflow_sub-sum : goal.overflow_sub-sum
overflow_sub-sum g c =
    let fresh = ap (λ (s : SessionState). s.failed) c.self.view_is ∙ c.requires.fresh in
    let h = c.args.head.now in
    let found : head_of h.name (Some h.cycle) c.self.inside.table.heads ≡ Some h = ap (λ (s : SessionState). head_of h.name (Some h.cycle) s.heads) c.self.view_is ∙ c.requires.there in
    omega (arith, c.key_length.ensures, c.self.invariant.bytes fresh, bytes_less c.self.inside.table.heads h found)

pub release_all-requires-clause-records : goal.release_all-requires-clause-records
release_all-requires-clause-records g c =
    subst (λ (ss : List Segment). AreReleasable ss c.args.places.now) (ap (λ (x : SessionState). x.segments) (sym c.self.view_is) ∙ sym (ap (λ (x : ChainState). x.segments) c.in_ok-reserve.ensures.ok)) c.requires.records

pub invariant_of-self-in-Ok : goal.invariant_of-self-in-Ok
invariant_of-self-in-Ok g c =
    let h = c.args.head.now in
    let places = c.args.places.now in
    let shape : AreSegments c.self.inside.chain.segments = c.in_ok-reserve.ensures.shape in
    let there : head_of h.name (Some h.cycle) c.self.inside.table.heads ≡ Some h = ap (λ (s : SessionState). head_of h.name (Some h.cycle) s.heads) c.self.view_is ∙ c.requires.there in
    let places_are = c.requires.places ∙ ap (λ (s : SessionState). released_by s h.name h.cycle) (sym c.self.view_is) in
    let segments : c.release_all.new.chain.segments ≡ without_segments places c.self.inside.chain.segments =
    c.in-Ok.ensures.chain ∙ ap (λ (x : ChainState). without_segments places x.segments) c.in_ok-reserve.ensures.ok in
    let heads : c.remove.new.self.heads ≡ without_head h.name h.cycle c.self.inside.table.heads =
    ap (λ (t : TableRoom). t.heads) c.remove.ensures.rest ∙ ap (λ (n : List ℕ). without_head n h.cycle c.self.inside.table.heads) c.as_slice-in-Ok.ensures in
    let filled : c.remove-in-Ok-10.new.self.trees ≡ without_filled h.name c.self.inside.filled.trees =
    ap (λ (r : FilledRoom). r.trees) c.remove-in-Ok-10.ensures.rest ∙ ap (λ (n : List ℕ). without_filled n c.self.inside.filled.trees) c.as_slice-in-Ok-3.ensures in
    let headers = bare_left h.name c.self.inside.filled.trees c.remove-in-Ok-10.new.self.trees filled in
    record {
      classes = c.self.invariant.classes;
      listed = c.self.invariant.listed;
      kept = λ fresh. deleted_kept c.args.self.now _ c.self.view_is h there shape (c.self.invariant.kept fresh) places places_are c.release_all.new.chain.segments segments c.remove.new.self.heads (map bare_tree c.remove-in-Ok-10.new.self.trees) heads headers;
      fresh = λ fresh. c.in-Ok.ensures.fresh;
      trees = trees_left h.name c.self.inside.filled.trees _ c.self.inside.trees.trees _ c.self.invariant.trees
          (ap (λ t. t.trees) c.remove-in-Ok-7.ensures.rest ∙ ap (λ (n : List ℕ). without_kept n c.self.inside.trees.trees) c.as_slice-in-Ok-2.ensures) filled;
      due = λ fresh. c.due_without-due.ensures ∙ (λ i. due_of (without_filled (c.as_slice.ensures i) (map bare_tree c.self.inside.filled.trees))) ∙ ap due_of (sym headers) ∙ all_due c.remove-in-Ok-10.new.self.trees;
      bytes = λ fresh. omega (arith, ap heads_size heads, bytes_less c.self.inside.table.heads h there, c.self.invariant.bytes fresh, c.key_length.ensures);
      directory = λ fresh. deleted_directory c.args.self.now _ c.self.view_is h there shape (c.self.invariant.kept fresh) places places_are c.release_all.new.chain.segments segments (c.self.invariant.directory fresh);
    }

pub returns-in-Err-clause-changes : goal.returns-in-Err-clause-changes
returns-in-Err-clause-changes g c =
    let h = c.args.head.now in
    let s = c.args.self.now in
    let own = ap (λ (x : SessionState). x.segments) (sym c.self.view_is) ∙ sym (ap (λ (x : ChainState). x.segments) c.in_ok-reserve.ensures.ok) in
    let p = deleting s h c.args.text.now in
    record {
      time = c.release_all.ensures.any_moment p s own (ap (map without_record) (sym c.requires.places));
      told = c.release_all.ensures.writes.told;
      said = c.release_all.ensures.writes.said;
      faults = (c.in-Err.ensures.cause.rose refl, c.release_all.ensures.writes.say_faults);
      failed = refl;
    }

pub returns-in_err-answer-in-Ok-clause-changes : goal.returns-in_err-answer-in-Ok-clause-changes
returns-in_err-answer-in-Ok-clause-changes g c =
    let h = c.args.head.now in
    let s = c.args.self.now in
    let places = c.args.places.now in
    let old = g.H.Host.view c.args.host.now in
    let mid = g.H.Host.view c.release_all.new.host in
    let own = ap (λ (x : SessionState). x.segments) (sym c.self.view_is) ∙ sym (ap (λ (x : ChainState). x.segments) c.in_ok-reserve.ensures.ok) in
    let p = deleting s h c.args.text.now in
    let segments : c.release_all.new.chain.segments ≡ without_segments places c.self.inside.chain.segments =
    c.in-Ok.ensures.chain ∙ ap (λ (x : ChainState). without_segments places x.segments) c.in_ok-reserve.ensures.ok in
    let heads : c.remove.new.self.heads ≡ without_head h.name h.cycle c.self.inside.table.heads =
    ap (λ (t : TableRoom). t.heads) c.remove.ensures.rest ∙ ap (λ (n : List ℕ). without_head n h.cycle c.self.inside.table.heads) c.as_slice-in-Ok.ensures in
    let filled : c.remove-in-Ok-10.new.self.trees ≡ without_filled h.name c.self.inside.filled.trees =
    ap (λ (r : FilledRoom). r.trees) c.remove-in-Ok-10.ensures.rest ∙ ap (λ (n : List ℕ). without_filled n c.self.inside.filled.trees) c.as_slice-in-Ok-3.ensures in
    let headers = bare_left h.name c.self.inside.filled.trees c.remove-in-Ok-10.new.self.trees filled in
    let u = c.in-Ok.ensures.done p s own (ap (map without_record) (sym c.requires.places)) in
    let q = err_from_is_err_and c.from_residual-in_err-answer-in-Ok.result c.from_residual-in_err-answer-in-Ok.ensures.1 in
    let unsaid = not_said (Unit {0}) c.args.text.now 0 _ _ _ _ c.in_err-answer-in-Ok.field-0.0 c.in_err-answer-in-Ok.ensures.fault c.in_err-answer-in-Ok.ensures.says in
    rw (q.1, q.2, c.in_err-answer-in-Ok.ensures.fault) (changed_not_said p old mid s _ u.time (all_reached p (length p.changes) old mid s _ u refl)
    (g.met.H.Host.lawful c.release_all.new.host) c.in-Ok.ensures.quiet u.said
    (deleted_is s _ h c.args.text.now places c.release_all.new.chain.segments c.remove.new.self.heads (map bare_tree c.remove-in-Ok-10.new.self.trees) c.self.view_is c.requires.places segments heads headers)
    (all_held p (length p.changes) old mid s _ u refl)
    (g.H.Host.view c.answer.new.host) c.answer.new.self (g.met.H.Host.lawful c.answer.new.host) unsaid u.told u.faults)

pub returns-in_ok-answer-in-Ok-clause-changes : goal.returns-in_ok-answer-in-Ok-clause-changes
returns-in_ok-answer-in-Ok-clause-changes g c =
    let h = c.args.head.now in
    let s = c.args.self.now in
    let places = c.args.places.now in
    let old = g.H.Host.view c.args.host.now in
    let mid = g.H.Host.view c.release_all.new.host in
    let own = ap (λ (x : SessionState). x.segments) (sym c.self.view_is) ∙ sym (ap (λ (x : ChainState). x.segments) c.in_ok-reserve.ensures.ok) in
    let p = deleting s h c.args.text.now in
    let segments : c.release_all.new.chain.segments ≡ without_segments places c.self.inside.chain.segments =
    c.in-Ok.ensures.chain ∙ ap (λ (x : ChainState). without_segments places x.segments) c.in_ok-reserve.ensures.ok in
    let heads : c.remove.new.self.heads ≡ without_head h.name h.cycle c.self.inside.table.heads =
    ap (λ (t : TableRoom). t.heads) c.remove.ensures.rest ∙ ap (λ (n : List ℕ). without_head n h.cycle c.self.inside.table.heads) c.as_slice-in-Ok.ensures in
    let filled : c.remove-in-Ok-10.new.self.trees ≡ without_filled h.name c.self.inside.filled.trees =
    ap (λ (r : FilledRoom). r.trees) c.remove-in-Ok-10.ensures.rest ∙ ap (λ (n : List ℕ). without_filled n c.self.inside.filled.trees) c.as_slice-in-Ok-3.ensures in
    let headers = bare_left h.name c.self.inside.filled.trees c.remove-in-Ok-10.new.self.trees filled in
    let u = c.in-Ok.ensures.done p s own (ap (map without_record) (sym c.requires.places)) in
    changed_and_said p old mid s _ u.time (all_reached p (length p.changes) old mid s _ u refl)
    (g.met.H.Host.lawful c.release_all.new.host) c.in-Ok.ensures.quiet u.said
    (deleted_is s _ h c.args.text.now places c.release_all.new.chain.segments c.remove.new.self.heads (map bare_tree c.remove-in-Ok-10.new.self.trees) c.self.view_is c.requires.places segments heads headers)
    (all_held p (length p.changes) old mid s _ u refl)
    (g.H.Host.view c.answer.new.host) c.answer.new.self (g.met.H.Host.lawful c.answer.new.host) c.in_ok-answer-in-Ok.ensures.says u.told u.faults

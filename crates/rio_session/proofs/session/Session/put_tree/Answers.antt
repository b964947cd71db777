use Rattle.std.proofs.{Common.{◌≡◌, ◌∙◌, ◌+◌, ◌<◌, ◌≤◌, ◌^◌, List, None, refl, sym, ap, subst, arith, length, map}, lemmas.Result.{err_from_is_err_and}}
use Rattle.std.specs.{List.{find}, Option.{option_or}}
use Rattle.rio_key.specs.declared.head.KeyHead.{KeyHead}
use Rattle.rio_dir.specs.Table.{TableRoom as HeadRoom, heads_size, is_at_cycle, with_head}
use Rattle.rio_chain.specs.{Chains.{ChainState}, declared.segment.Segment.{Segment}}
use Rattle.rio_tree_table.specs.{Table.{TableRoom, tree_of, with_tree}, declared.table.KeptTree.{KeptTree}}
use Rattle.rio_session.specs.{Due.{due_of}, Fills.{FilledRoom, FilledTree, is_tree_of, kept_tree_of, with_filled}, Session.{SessionState}, Steps.{all_stepped}, TreePlans.{making_now}, TreeWorks.{doing}}
use Rattle.rio_session.proofs.ChangeMoments.{changed_and_said, changed_not_said, not_said}
use Rattle.rio_session.proofs.{Moments.{all_held, all_reached}, Needs.{kept_bounds}, TreePut.{made_closable, made_directory, made_listed, made_view, new_head_name, new_kept_name, new_key, new_short, new_tree_name, tree_changes, tree_due, tree_rows, tree_size}}
use Rattle.rio_session.proofs.session.Session.put_tree.Goals as goal

pub key_length-requires : goal.key_length-requires
key_length-requires g c = omega (arith, new_key c.args.self.now _ c.self.view_is c.self.inside.filled.trees refl c.args.made c.requires.can)

pub overflow_add-sum : goal.overflow_add-sum
overflow_add-sum g c =
    let fresh = ap (λ (s : SessionState). s.failed) c.self.view_is ∙ c.requires.fresh in
    let b = kept_bounds _ _ _ _ _ (c.self.invariant.kept fresh) in
    omega (arith, b.heads, c.self.invariant.bytes fresh, c.key_length.ensures, new_key c.args.self.now _ c.self.view_is c.self.inside.filled.trees refl c.args.made c.requires.can)

pub insert-requires-clause-unique : goal.insert-requires-clause-unique
insert-requires-clause-unique g c =
    let none = new_head_name c.args.self.now _ c.self.view_is c.self.inside.filled.trees refl c.args.made c.requires.can in
    subst (λ (l : List KeyHead). find (is_at_cycle c.args.made.head.name c.args.made.head.cycle) l ≡ None) (sym (ap (λ (t : HeadRoom). t.heads) c.in_ok-reserve_one.ensures.ok)) none

pub insert-requires-in-Ok-clause-unique : goal.insert-requires-in-Ok-clause-unique
insert-requires-in-Ok-clause-unique g c =
    let none = new_kept_name c.args.self.now _ c.self.view_is c.self.inside.filled.trees refl c.args.made c.requires.can c.self.inside.trees.trees c.self.invariant.trees in
    subst (λ (l : List KeptTree). tree_of c.args.made.kept.name l ≡ None) (sym (ap (λ (t : TableRoom). t.trees) c.in_ok-reserve_one-2.ensures.ok)) none

pub insert-requires-in-Ok-2-clause-unique : goal.insert-requires-in-Ok-2-clause-unique
insert-requires-in-Ok-2-clause-unique g c =
    let none = new_tree_name c.args.self.now _ c.self.view_is c.self.inside.filled.trees refl c.args.made c.requires.can in
    subst (λ (l : List FilledTree). find (is_tree_of c.args.made.tree.name) l ≡ None) (sym (ap (λ (r : FilledRoom). r.trees) c.in_ok-reserve_one-3.ensures.ok)) none

pub invariant_of-self-in-Ok : goal.invariant_of-self-in-Ok
invariant_of-self-in-Ok g c =
    let m = c.args.made in
    let new = c.requires.can.0 in
    let trees = c.self.inside.filled.trees in
    let segments : c.make_changes.new.chain.segments ≡ all_stepped m.steps.items c.self.inside.chain.segments =
    c.in-Ok.ensures.chain ∙ ap (λ (x : ChainState). all_stepped m.steps.items x.segments) c.in_ok-reserve.ensures.ok in
    let heads : c.insert.new.self.heads ≡ with_head m.head c.self.inside.table.heads =
    ap (λ (t : HeadRoom). t.heads) c.insert.ensures ∙ ap (λ (t : HeadRoom). with_head m.head t.heads) c.in_ok-reserve_one.ensures.ok in
    let now : c.insert-in-Ok-2.new.self.trees ≡ with_filled m.tree trees =
    ap (λ (r : FilledRoom). r.trees) c.insert-in-Ok-2.ensures ∙ ap (λ (r : FilledRoom). with_filled m.tree r.trees) c.in_ok-reserve_one-3.ensures.ok in
    let info : c.list_then-info.result ≡ option_or m.list c.self.inside.info = c.list_then-info.ensures ∙ ap (option_or m.list) c.take.ensures.value in
    record {
      classes = c.self.invariant.classes;
      listed = made_listed c.args.self.now _ c.self.view_is trees refl new.name new.branches m c.requires.can.3 c.make_changes.new.chain.segments segments c.insert.new.self.heads heads c.insert-in-Ok-2.new.self.trees now c.list_then-info.result info c.self.invariant.listed;
      kept = λ fresh.
          made_closable c.args.self.now _ c.self.view_is trees refl new.name new.branches m c.requires.can.3 c.make_changes.new.chain.segments segments c.insert.new.self.heads heads c.insert-in-Ok-2.new.self.trees now c.list_then-info.result info
          (new_short c.args.self.now _ c.self.view_is trees refl m c.requires.can) c.end-end.ensures.shape (c.self.invariant.kept fresh);
      fresh = λ fresh. c.in-Ok.ensures.fresh;
      trees = ap (λ (t : TableRoom). t.trees) c.insert-in-Ok.ensures
          ∙ ap (λ (t : TableRoom). with_tree m.kept t.trees) c.in_ok-reserve_one-2.ensures.ok
          ∙ tree_rows c.args.self.now _ c.self.view_is trees refl new.name new.branches m c.requires.can.3 c.self.inside.trees.trees c.self.invariant.trees
          ∙ ap (map kept_tree_of) (sym now);
      due = λ fresh. c.self.invariant.due fresh ∙ sym (tree_due c.args.self.now _ c.self.view_is trees refl new.name new.branches m c.requires.can.3) ∙ ap due_of (sym now);
      bytes = λ fresh. omega (arith, ap heads_size heads, tree_size c.args.self.now _ c.self.view_is trees refl new.name new.branches m c.requires.can.3, c.self.invariant.bytes fresh, c.key_length.ensures);
      directory = λ fresh.
          made_directory c.args.self.now _ c.self.view_is trees refl new.name new.branches m c.requires.can.3 c.make_changes.new.chain.segments segments c.insert.new.self.heads heads c.insert-in-Ok-2.new.self.trees now c.list_then-info.result info
          c.self.inside.nbytes_name (c.self.invariant.directory fresh);
    }

pub returns-in-Err-clause-changes : goal.returns-in-Err-clause-changes
returns-in-Err-clause-changes g c name branches made =
    let s = c.args.self.now in
    let own = ap (λ (x : SessionState). x.segments) (sym c.self.view_is) ∙ sym (ap (λ (x : ChainState). x.segments) c.in_ok-reserve.ensures.ok) in
    let p = doing (making_now s name branches) c.args.text.now c.args.cost in
    let changes = tree_changes s _ c.self.view_is c.self.inside.filled.trees refl name branches c.args.made made in
    record {
      time = c.make_changes.ensures.any_moment p s own changes;
      told = c.make_changes.ensures.writes.told;
      said = c.make_changes.ensures.writes.said;
      faults = (c.in-Err.ensures.cause.rose refl, c.make_changes.ensures.writes.say_faults);
      failed = refl;
    }

pub returns-in_err-answer-in-Ok-clause-changes : goal.returns-in_err-answer-in-Ok-clause-changes
returns-in_err-answer-in-Ok-clause-changes g c name branches made =
    let s = c.args.self.now in
    let m = c.args.made in
    let trees = c.self.inside.filled.trees in
    let old = g.H.Host.view c.args.host.now in
    let mid = g.H.Host.view c.make_changes.new.host in
    let own = ap (λ (x : SessionState). x.segments) (sym c.self.view_is) ∙ sym (ap (λ (x : ChainState). x.segments) c.in_ok-reserve.ensures.ok) in
    let p = doing (making_now s name branches) c.args.text.now c.args.cost in
    let segments : c.make_changes.new.chain.segments ≡ all_stepped m.steps.items c.self.inside.chain.segments =
    c.in-Ok.ensures.chain ∙ ap (λ (x : ChainState). all_stepped m.steps.items x.segments) c.in_ok-reserve.ensures.ok in
    let heads : c.insert.new.self.heads ≡ with_head m.head c.self.inside.table.heads =
    ap (λ (t : HeadRoom). t.heads) c.insert.ensures ∙ ap (λ (t : HeadRoom). with_head m.head t.heads) c.in_ok-reserve_one.ensures.ok in
    let now : c.insert-in-Ok-2.new.self.trees ≡ with_filled m.tree trees =
    ap (λ (r : FilledRoom). r.trees) c.insert-in-Ok-2.ensures ∙ ap (λ (r : FilledRoom). with_filled m.tree r.trees) c.in_ok-reserve_one-3.ensures.ok in
    let info : c.list_then-info.result ≡ option_or m.list c.self.inside.info = c.list_then-info.ensures ∙ ap (option_or m.list) c.take.ensures.value in
    let kept = made_view s _ c.self.view_is trees refl name branches m made c.make_changes.new.chain.segments segments c.insert.new.self.heads heads c.insert-in-Ok-2.new.self.trees now c.list_then-info.result info in
    let u = c.in-Ok.ensures.done p s own (tree_changes s _ c.self.view_is trees refl name branches m made) in
    let q = err_from_is_err_and c.from_residual-in_err-answer-in-Ok.result c.from_residual-in_err-answer-in-Ok.ensures.1 in
    let unsaid = not_said (Unit {0}) c.args.text.now c.args.cost _ _ _ _ c.in_err-answer-in-Ok.field-0.0 c.in_err-answer-in-Ok.ensures.fault c.in_err-answer-in-Ok.ensures.says in
    rw (q.1, q.2, c.in_err-answer-in-Ok.ensures.fault) (changed_not_said p old mid s _ u.time (all_reached p (length p.changes) old mid s _ u refl)
    (g.met.H.Host.lawful c.make_changes.new.host) c.in-Ok.ensures.quiet u.said kept
    (all_held p (length p.changes) old mid s _ u refl)
    (g.H.Host.view c.answer.new.host) c.answer.new.self (g.met.H.Host.lawful c.answer.new.host) unsaid u.told u.faults)

pub returns-in_ok-answer-in-Ok-clause-changes : goal.returns-in_ok-answer-in-Ok-clause-changes
returns-in_ok-answer-in-Ok-clause-changes g c name branches made =
    let s = c.args.self.now in
    let m = c.args.made in
    let trees = c.self.inside.filled.trees in
    let old = g.H.Host.view c.args.host.now in
    let mid = g.H.Host.view c.make_changes.new.host in
    let own = ap (λ (x : SessionState). x.segments) (sym c.self.view_is) ∙ sym (ap (λ (x : ChainState). x.segments) c.in_ok-reserve.ensures.ok) in
    let p = doing (making_now s name branches) c.args.text.now c.args.cost in
    let segments : c.make_changes.new.chain.segments ≡ all_stepped m.steps.items c.self.inside.chain.segments =
    c.in-Ok.ensures.chain ∙ ap (λ (x : ChainState). all_stepped m.steps.items x.segments) c.in_ok-reserve.ensures.ok in
    let heads : c.insert.new.self.heads ≡ with_head m.head c.self.inside.table.heads =
    ap (λ (t : HeadRoom). t.heads) c.insert.ensures ∙ ap (λ (t : HeadRoom). with_head m.head t.heads) c.in_ok-reserve_one.ensures.ok in
    let now : c.insert-in-Ok-2.new.self.trees ≡ with_filled m.tree trees =
    ap (λ (r : FilledRoom). r.trees) c.insert-in-Ok-2.ensures ∙ ap (λ (r : FilledRoom). with_filled m.tree r.trees) c.in_ok-reserve_one-3.ensures.ok in
    let info : c.list_then-info.result ≡ option_or m.list c.self.inside.info = c.list_then-info.ensures ∙ ap (option_or m.list) c.take.ensures.value in
    let kept = made_view s _ c.self.view_is trees refl name branches m made c.make_changes.new.chain.segments segments c.insert.new.self.heads heads c.insert-in-Ok-2.new.self.trees now c.list_then-info.result info in
    let u = c.in-Ok.ensures.done p s own (tree_changes s _ c.self.view_is trees refl name branches m made) in
    changed_and_said p old mid s _ u.time (all_reached p (length p.changes) old mid s _ u refl)
    (g.met.H.Host.lawful c.make_changes.new.host) c.in-Ok.ensures.quiet u.said kept
    (all_held p (length p.changes) old mid s _ u refl)
    (g.H.Host.view c.answer.new.host) c.answer.new.self (g.met.H.Host.lawful c.answer.new.host) c.in_ok-answer-in-Ok.ensures.says u.told u.faults

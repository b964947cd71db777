use Rattle.std.proofs.{Common.{◌≡◌, ◌∙◌, ◌+◌, ◌-◌, ◌≤◌, ◌<◌, ◌^◌, ℕ, List, Some, None, refl, sym, ap, subst, arith, length, map}, lemmas.Result.{err_from_is_err_and}}
use Rattle.std.specs.List.{find}
use Rattle.rio_key.specs.{Written.{written_key}, declared.head.KeyHead.{KeyHead}}
use Rattle.rio_dir.specs.Table.{AreOrdered, TableRoom, heads_size, is_at_cycle, with_head, without_head}
use Rattle.rio_chain.specs.{Adjoining.{AreSegments}, Chains.{ChainState}, declared.segment.Segment.{Segment}}
use Rattle.rio_tree_table.specs.{Table.{TableRoom as TreesRoom, with_rows}}
use Rattle.rio_fill.specs.Room.{reserved}
use Rattle.rio_session.specs.{Due.{IsClosableWith, due_of}, Fills.{FilledRoom, FilledTree, bare_tree, changed_tree, kept_tree_of}, Noted.{CanBeSavedThen, IsTreeAt, saved_then}, SavePlans.{saving_now}, Session.{SessionState}}
use Rattle.rio_session.specs.{Steps.{CanRun, all_stepped}, TreeWorks.{doing}}
use Rattle.rio_session.proofs.ChangeMoments.{changed_and_said, changed_not_said, not_said}
use Rattle.rio_recover.specs.Whole.{HoldsDirectory}
use Rattle.rio_session.proofs.{Bare.{all_due, all_kept}, Keeps.{size_with}, Moments.{all_held, all_reached}, SaveCalls.{said_as}, SavePut.{own_bytes, save_bytes, save_bytes_low, save_can, save_changes, save_closed, save_directory, save_due, save_runs, save_trees, save_unused, save_view}}
use Rattle.rio_session.proofs.session.Session.put_save.Goals as goal

pub key_length-requires : goal.key_length-requires
key_length-requires g c =
    let fresh = ap (λ (s : SessionState). s.failed) c.self.view_is ∙ c.requires.fresh in
    let own = own_bytes c.args.self.now _ c.self.view_is c.self.inside.filled.trees refl c.args.before.now c.args.at c.args.plan c.requires.can in
    omega (arith, own, c.self.invariant.bytes fresh)

pub overflow_sub-others : goal.overflow_sub-others
overflow_sub-others g c =
    let fresh = ap (λ (s : SessionState). s.failed) c.self.view_is ∙ c.requires.fresh in
    let own = own_bytes c.args.self.now _ c.self.view_is c.self.inside.filled.trees refl c.args.before.now c.args.at c.args.plan c.requires.can in
    omega (arith, own, c.self.invariant.bytes fresh, c.key_length.ensures)

pub overflow_add-sum : goal.overflow_add-sum
overflow_add-sum g c =
    let fresh = ap (λ (s : SessionState). s.failed) c.self.view_is ∙ c.requires.fresh in
    let low = save_bytes_low c.args.self.now _ c.self.view_is c.self.inside.filled.trees refl c.args.before.now c.args.at c.args.plan c.requires.can in
    let size = size_with c.args.plan.made.head (without_head c.args.before.now.name c.args.before.now.cycle c.self.inside.table.heads) in
    let own = own_bytes c.args.self.now _ c.self.view_is c.self.inside.filled.trees refl c.args.before.now c.args.at c.args.plan c.requires.can in
    omega (arith, low, size, own, c.self.invariant.bytes fresh, c.key_length.ensures, c.key_length-2.ensures)

pub insert-requires-clause-room : goal.insert-requires-clause-room
insert-requires-clause-room g c =
    omega (arith, ap (λ (t : TableRoom). t.spare) c.remove.ensures.rest, ap (λ (t : TableRoom). t.spare) c.in_ok-reserve_one.ensures.ok)

pub insert-requires-clause-unique : goal.insert-requires-clause-unique
insert-requires-clause-unique g c =
    let k = c.args.before.now in
    let h = c.args.plan.made.head in
    let left : c.remove.new.self.heads ≡ without_head k.name k.cycle c.self.inside.table.heads =
    ap (λ (t : TableRoom). t.heads) c.remove.ensures.rest ∙ (λ i. without_head (c.as_slice-in-Ok.ensures i) k.cycle (ap (λ (t : TableRoom). t.heads) c.in_ok-reserve_one.ensures.ok i)) in
    let in_order = subst AreOrdered (ap (λ (t : TableRoom). t.heads) c.in_ok-reserve_one.ensures.ok) c.as_slice-keys.ensures.ordered in
    ap (find (is_at_cycle h.name h.cycle)) left ∙ save_unused c.args.self.now _ c.self.view_is c.self.inside.filled.trees refl k c.args.at c.args.plan c.requires.can in_order

pub make_changes-requires-clause-run : goal.make_changes-requires-clause-run
make_changes-requires-clause-run g c =
    let runs = save_runs c.args.self.now _ c.self.view_is c.self.inside.filled.trees refl c.args.before.now c.args.at c.args.plan c.requires.can in
    subst (λ (ss : List Segment). CanRun c.args.plan.made.steps.items ss) (sym (ap (λ (x : ChainState). x.segments) c.in_ok-reserve.ensures.ok)) runs

pub save-requires : goal.save-requires
save-requires g c =
    let fresh = ap (λ (s : SessionState). s.failed) c.self.view_is ∙ c.requires.fresh in
    let can = save_can c.args.self.now _ c.self.view_is c.self.inside.filled.trees refl c.args.before.now c.args.at c.args.plan c.requires.can (c.self.invariant.kept fresh) in
    subst (λ (l : List FilledTree). IsTreeAt l c.args.at (CanBeSavedThen c.args.plan.made.ats c.args.plan.made.flags)) (sym (ap (λ (r : FilledRoom). r.trees) c.in_ok-reserve-2.ensures.ok)) can

pub invariant_of-self-in-Ok : goal.invariant_of-self-in-Ok
invariant_of-self-in-Ok g c =
    let k = c.args.before.now in
    let plan = c.args.plan in
    let trees = c.self.inside.filled.trees in
    let now : c.save.new.self.trees ≡ changed_tree c.args.at (saved_then plan.made.ats plan.made.flags) (changed_tree c.args.at (λ f. reserved f None) trees) =
    ap (λ (r : FilledRoom). r.trees) c.save.ensures ∙ ap (λ (r : FilledRoom). changed_tree c.args.at (saved_then plan.made.ats plan.made.flags) r.trees) c.in_ok-reserve-2.ensures.ok in
    let segments : c.make_changes.new.chain.segments ≡ all_stepped plan.made.steps.items c.self.inside.chain.segments =
    c.in-Ok.ensures.chain ∙ ap (λ (x : ChainState). all_stepped plan.made.steps.items x.segments) c.in_ok-reserve.ensures.ok in
    let left : c.remove.new.self.heads ≡ without_head k.name k.cycle c.self.inside.table.heads =
    ap (λ (t : TableRoom). t.heads) c.remove.ensures.rest ∙ (λ i. without_head (c.as_slice-in-Ok.ensures i) k.cycle (ap (λ (t : TableRoom). t.heads) c.in_ok-reserve_one.ensures.ok i)) in
    let heads : c.insert.new.self.heads ≡ with_head plan.made.head (without_head k.name k.cycle c.self.inside.table.heads) =
    ap (λ (t : TableRoom). t.heads) c.insert.ensures ∙ ap (with_head plan.made.head) left in
    let shape = c.in_ok-reserve.ensures.shape in
    record {
      classes = c.self.invariant.classes;
      listed = c.self.invariant.listed;
      kept = λ fresh.
          save_closed c.args.self.now _ c.self.view_is trees refl k c.args.at plan c.requires.can c.save.new.self.trees now c.rows-saved.ensures.ordered shape (c.self.invariant.kept fresh) c.make_changes.new.chain.segments segments c.insert.new.self.heads heads;
      fresh = λ fresh. c.in-Ok.ensures.fresh;
      trees = ap (λ (t : TreesRoom). t.trees) c.set_rows.ensures
          ∙ ap (λ (n : List ℕ). with_rows n c.rows-saved.result.0 c.rows-saved.result.1 c.self.inside.trees.trees) c.as_slice.ensures
          ∙ save_trees c.args.self.now _ c.self.view_is trees refl k c.args.at plan c.requires.can c.save.new.self.trees now c.rows-saved.ensures.ordered c.self.inside.trees.trees c.self.invariant.trees c.rows-saved.result.0 c.rows-saved.result.1 c.rows-saved.ensures.exact;
      due = λ fresh. save_due c.args.self.now _ c.self.view_is trees refl k c.args.at plan c.requires.can c.save.new.self.trees now c.rows-saved.ensures.ordered shape (c.self.invariant.kept fresh);
      bytes = λ fresh.
          omega (arith, ap heads_size heads, save_bytes c.args.self.now _ c.self.view_is trees refl k c.args.at plan c.requires.can, c.self.invariant.bytes fresh, c.key_length.ensures, c.key_length-2.ensures);
      directory = λ fresh.
          save_directory c.args.self.now _ c.self.view_is trees refl k c.args.at plan c.requires.can c.save.new.self.trees now c.rows-saved.ensures.ordered shape (c.self.invariant.kept fresh) c.make_changes.new.chain.segments segments
          c.insert.new.self.heads heads c.self.inside.nbytes_name (c.self.invariant.directory fresh);
    }

pub returns-clause-changes : goal.returns-clause-changes
returns-clause-changes g c t meant named counted =
    let s = c.args.self.now in
    let own = ap (λ (x : SessionState). x.segments) (sym c.self.view_is) ∙ sym (ap (λ (x : ChainState). x.segments) c.in_ok-reserve.ensures.ok) in
    let p = doing (saving_now s t c.args.before.now) c.args.text.now meant in
    let changes = save_changes s _ c.self.view_is c.self.inside.filled.trees refl c.args.before.now c.args.at c.args.plan c.requires.can t named in
    record {
      time = c.make_changes.ensures.any_moment p s own changes;
      told = c.make_changes.ensures.writes.told;
      said = c.make_changes.ensures.writes.said;
      faults = (c.in-Err.ensures.cause.rose refl, c.make_changes.ensures.writes.say_faults);
      failed = refl;
    }

pub returns-in_err-answer-in-Ok-clause-changes : goal.returns-in_err-answer-in-Ok-clause-changes
returns-in_err-answer-in-Ok-clause-changes g c t meant named counted =
    let s = c.args.self.now in
    let k = c.args.before.now in
    let plan = c.args.plan in
    let trees = c.self.inside.filled.trees in
    let fresh = ap (λ (x : SessionState). x.failed) c.self.view_is ∙ c.requires.fresh in
    let old = g.H.Host.view c.args.host.now in
    let mid = g.H.Host.view c.make_changes.new.host in
    let own = ap (λ (x : SessionState). x.segments) (sym c.self.view_is) ∙ sym (ap (λ (x : ChainState). x.segments) c.in_ok-reserve.ensures.ok) in
    let p = doing (saving_now s t k) c.args.text.now meant in
    let now : c.save.new.self.trees ≡ changed_tree c.args.at (saved_then plan.made.ats plan.made.flags) (changed_tree c.args.at (λ f. reserved f None) trees) =
    ap (λ (r : FilledRoom). r.trees) c.save.ensures ∙ ap (λ (r : FilledRoom). changed_tree c.args.at (saved_then plan.made.ats plan.made.flags) r.trees) c.in_ok-reserve-2.ensures.ok in
    let segments : c.make_changes.new.chain.segments ≡ all_stepped plan.made.steps.items c.self.inside.chain.segments =
    c.in-Ok.ensures.chain ∙ ap (λ (x : ChainState). all_stepped plan.made.steps.items x.segments) c.in_ok-reserve.ensures.ok in
    let left : c.remove.new.self.heads ≡ without_head k.name k.cycle c.self.inside.table.heads =
    ap (λ (r : TableRoom). r.heads) c.remove.ensures.rest ∙ (λ i. without_head (c.as_slice-in-Ok.ensures i) k.cycle (ap (λ (r : TableRoom). r.heads) c.in_ok-reserve_one.ensures.ok i)) in
    let heads : c.insert.new.self.heads ≡ with_head plan.made.head (without_head k.name k.cycle c.self.inside.table.heads) =
    ap (λ (r : TableRoom). r.heads) c.insert.ensures ∙ ap (with_head plan.made.head) left in
    let kept = save_view s _ c.self.view_is trees refl k c.args.at plan c.requires.can c.save.new.self.trees now c.rows-saved.ensures.ordered c.in_ok-reserve.ensures.shape (c.self.invariant.kept fresh) c.make_changes.new.chain.segments segments
    c.insert.new.self.heads heads t named in
    let u = c.in-Ok.ensures.done p s own (save_changes s _ c.self.view_is trees refl k c.args.at plan c.requires.can t named) in
    let q = err_from_is_err_and c.from_residual-in_err-answer-in-Ok.result c.from_residual-in_err-answer-in-Ok.ensures.1 in
    let unsaid = not_said (Unit {0}) c.args.text.now c.args.cost _ _ _ _ c.in_err-answer-in-Ok.field-0.0 c.in_err-answer-in-Ok.ensures.fault c.in_err-answer-in-Ok.ensures.says in
    rw (q.1, q.2, c.in_err-answer-in-Ok.ensures.fault) (changed_not_said p old mid s _ u.time (all_reached p (length p.changes) old mid s _ u refl)
    (g.met.H.Host.lawful c.make_changes.new.host) c.in-Ok.ensures.quiet u.said kept
    (all_held p (length p.changes) old mid s _ u refl)
    (g.H.Host.view c.answer.new.host) c.answer.new.self (g.met.H.Host.lawful c.answer.new.host) unsaid u.told u.faults)

pub returns-in-Ok-clause-changes : goal.returns-in-Ok-clause-changes
returns-in-Ok-clause-changes g c t meant named counted =
    let s = c.args.self.now in
    let k = c.args.before.now in
    let plan = c.args.plan in
    let trees = c.self.inside.filled.trees in
    let fresh = ap (λ (x : SessionState). x.failed) c.self.view_is ∙ c.requires.fresh in
    let old = g.H.Host.view c.args.host.now in
    let mid = g.H.Host.view c.make_changes.new.host in
    let own = ap (λ (x : SessionState). x.segments) (sym c.self.view_is) ∙ sym (ap (λ (x : ChainState). x.segments) c.in_ok-reserve.ensures.ok) in
    let p = doing (saving_now s t k) c.args.text.now meant in
    let now : c.save.new.self.trees ≡ changed_tree c.args.at (saved_then plan.made.ats plan.made.flags) (changed_tree c.args.at (λ f. reserved f None) trees) =
    ap (λ (r : FilledRoom). r.trees) c.save.ensures ∙ ap (λ (r : FilledRoom). changed_tree c.args.at (saved_then plan.made.ats plan.made.flags) r.trees) c.in_ok-reserve-2.ensures.ok in
    let segments : c.make_changes.new.chain.segments ≡ all_stepped plan.made.steps.items c.self.inside.chain.segments =
    c.in-Ok.ensures.chain ∙ ap (λ (x : ChainState). all_stepped plan.made.steps.items x.segments) c.in_ok-reserve.ensures.ok in
    let left : c.remove.new.self.heads ≡ without_head k.name k.cycle c.self.inside.table.heads =
    ap (λ (r : TableRoom). r.heads) c.remove.ensures.rest ∙ (λ i. without_head (c.as_slice-in-Ok.ensures i) k.cycle (ap (λ (r : TableRoom). r.heads) c.in_ok-reserve_one.ensures.ok i)) in
    let heads : c.insert.new.self.heads ≡ with_head plan.made.head (without_head k.name k.cycle c.self.inside.table.heads) =
    ap (λ (r : TableRoom). r.heads) c.insert.ensures ∙ ap (with_head plan.made.head) left in
    let kept = save_view s _ c.self.view_is trees refl k c.args.at plan c.requires.can c.save.new.self.trees now c.rows-saved.ensures.ordered c.in_ok-reserve.ensures.shape (c.self.invariant.kept fresh) c.make_changes.new.chain.segments segments
    c.insert.new.self.heads heads t named in
    let u = c.in-Ok.ensures.done p s own (save_changes s _ c.self.view_is trees refl k c.args.at plan c.requires.can t named) in
    let said = said_as c.args.text.now c.args.cost meant mid (g.H.Host.view c.answer.new.host) _ c.answer.new.self counted c.in_ok-answer-in-Ok.ensures.says in
    changed_and_said p old mid s _ u.time (all_reached p (length p.changes) old mid s _ u refl)
    (g.met.H.Host.lawful c.make_changes.new.host) c.in-Ok.ensures.quiet u.said kept
    (all_held p (length p.changes) old mid s _ u refl)
    (g.H.Host.view c.answer.new.host) c.answer.new.self (g.met.H.Host.lawful c.answer.new.host) said u.told u.faults

pub key_length-requires-2 : goal.key_length-requires-2
key_length-requires-2 g c =
    let low = save_bytes_low c.args.self.now _ c.self.view_is c.self.inside.filled.trees refl c.args.before.now c.args.at c.args.plan c.requires.can in
    let size = size_with c.args.plan.made.head (without_head c.args.before.now.name c.args.before.now.cycle c.self.inside.table.heads) in
    omega (arith, low, size)

pub invariant_of-self-in_err-reserve-2 : goal.invariant_of-self-in_err-reserve-2
invariant_of-self-in_err-reserve-2 g c =
    let chain = c.in_ok-reserve.ensures.ok in
    let table = c.in_ok-reserve_one.ensures.ok in
    let bare = c.reserve-2.ensures.same in
    record {
      classes = c.self.invariant.classes;
      listed = c.self.invariant.listed;
      kept = λ fresh. subst (λ (x : List Segment × (List KeyHead × List FilledTree)). IsClosableWith x.0 x.1.0 x.1.1 c.self.inside.info c.self.inside.name)
          (λ i. (ap (λ (s : ChainState). s.segments) (sym chain) i, (ap (λ (t : TableRoom). t.heads) (sym table) i, sym bare i))) (c.self.invariant.kept fresh);
      fresh = λ fresh. ap (λ (s : ChainState). s.spent) chain ∙ c.self.invariant.fresh fresh;
      trees = c.self.invariant.trees ∙ sym (all_kept c.self.inside.filled.trees) ∙ ap (map kept_tree_of) (sym bare) ∙ all_kept c.reserve-2.new.self.trees;
      due = λ fresh. c.self.invariant.due fresh ∙ sym (all_due c.self.inside.filled.trees) ∙ ap due_of (sym bare) ∙ all_due c.reserve-2.new.self.trees;
      bytes = λ fresh. c.self.invariant.bytes fresh ∙ ap (λ (t : TableRoom). heads_size t.heads) (sym table);
      directory = λ fresh. subst (HoldsDirectory c.self.inside.nbytes_name) (ap (λ (s : ChainState). s.segments) (sym chain)) (c.self.invariant.directory fresh);
    }

pub invariant_of-self-in-Err : goal.invariant_of-self-in-Err
invariant_of-self-in-Err g c =
    let bare = c.reserve-2.ensures.same in
    record {
      classes = c.self.invariant.classes;
      listed = c.self.invariant.listed;
      kept = λ fresh. absurd cc;
      fresh = λ fresh. absurd cc;
      trees = c.self.invariant.trees ∙ sym (all_kept c.self.inside.filled.trees) ∙ ap (map kept_tree_of) (sym bare) ∙ all_kept c.reserve-2.new.self.trees;
      due = λ fresh. absurd cc;
      bytes = λ fresh. absurd cc;
      directory = λ fresh. absurd cc;
    }

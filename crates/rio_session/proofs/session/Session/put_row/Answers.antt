use Rattle.std.proofs.{Common.{true≢false, ◌≡◌, ◌∙◌, ℕ, List, Some, refl, sym, ap, subst, length, map}, lemmas.Result.{err_from_is_err_and}}
use Rattle.rio_chain.specs.{Chains.{ChainState}, declared.segment.Segment.{Segment}}
use Rattle.rio_tree_table.specs.{Table.{TableRoom, with_rows}}
use Rattle.rio_fill.specs.Room.{reserved}
use Rattle.rio_session.specs.{Due.{IsClosableWith, due_of}, Fillings.{filling_with}, Fills.{FilledRoom, FilledTree, bare_tree, changed_tree, kept_tree_of}, Noted.{CanBeFilledThen, IsTreeAt, filled_then}, Session.{SessionState}}
use Rattle.rio_session.specs.{Steps.{CanRun, all_stepped}, TreeWorks.{doing}}
use Rattle.rio_session.proofs.ChangeMoments.{changed_and_said, changed_not_said, not_said}
use Rattle.rio_recover.specs.Whole.{HoldsDirectory}
use Rattle.rio_session.proofs.{Bare.{all_due, all_kept}, Moments.{all_held, all_reached}, RowPut.{row_can, row_changes, row_closable, row_directory, row_due_is, row_runs, row_trees, row_view}}
use Rattle.rio_session.proofs.session.Session.put_row.Goals as goal

pub make_changes-requires-clause-run : goal.make_changes-requires-clause-run
make_changes-requires-clause-run g c =
    let runs = row_runs c.args.self.now _ c.self.view_is c.self.inside.filled.trees refl c.args.row.now.name c.args.at c.args.entries c.args.plan c.requires.can in
    subst (λ (ss : List Segment). CanRun c.args.plan.baskets.steps.items ss) (sym (ap (λ (x : ChainState). x.segments) c.in_ok-reserve.ensures.ok)) runs

pub fill-requires : goal.fill-requires
fill-requires g c =
    let fresh = ap (λ (s : SessionState). s.failed) c.self.view_is ∙ c.requires.fresh in
    let can = row_can c.args.self.now _ c.self.view_is c.self.inside.filled.trees refl c.args.row.now.name c.args.at c.args.entries c.args.plan c.requires.can (c.self.invariant.kept fresh) in
    subst (λ (l : List FilledTree). IsTreeAt l c.args.at (CanBeFilledThen c.args.plan.baskets.ats c.args.plan.flags c.args.entries)) (sym (ap (λ (r : FilledRoom). r.trees) c.in_ok-reserve-2.ensures.ok)) can

pub invariant_of-self-in-Ok : goal.invariant_of-self-in-Ok
invariant_of-self-in-Ok g c =
    let name = c.args.row.now.name in
    let row = c.args.entries in
    let plan = c.args.plan in
    let trees = c.self.inside.filled.trees in
    let now : c.fill.new.self.trees ≡ changed_tree c.args.at (filled_then plan.baskets.ats plan.flags row) (changed_tree c.args.at (λ f. reserved f (Some row)) trees) =
    ap (λ (r : FilledRoom). r.trees) c.fill.ensures ∙ ap (λ (r : FilledRoom). changed_tree c.args.at (filled_then plan.baskets.ats plan.flags row) r.trees) c.in_ok-reserve-2.ensures.ok in
    let segments : c.make_changes.new.chain.segments ≡ all_stepped plan.baskets.steps.items c.self.inside.chain.segments =
    c.in-Ok.ensures.chain ∙ ap (λ (x : ChainState). all_stepped plan.baskets.steps.items x.segments) c.in_ok-reserve.ensures.ok in
    record {
      classes = c.self.invariant.classes;
      listed = c.self.invariant.listed;
      kept = λ fresh.
          row_closable c.args.self.now _ c.self.view_is trees refl name c.args.at row plan c.requires.can c.fill.new.self.trees now c.rows-saved.ensures.ordered c.make_changes.new.chain.segments segments
          c.in_ok-reserve.ensures.shape (c.self.invariant.kept fresh);
      fresh = λ fresh. c.in-Ok.ensures.fresh;
      trees = ap (λ (t : TableRoom). t.trees) c.set_rows.ensures
          ∙ ap (λ (n : List ℕ). with_rows n c.rows-saved.result.0 c.rows-saved.result.1 c.self.inside.trees.trees) c.as_slice.ensures
          ∙ row_trees c.args.self.now _ c.self.view_is trees refl name c.args.at row plan c.requires.can c.fill.new.self.trees now c.rows-saved.ensures.ordered c.self.inside.trees.trees c.self.invariant.trees c.rows-saved.result.0 c.rows-saved.result.1 c.rows-saved.ensures.exact;
      due = λ fresh. row_due_is c.args.self.now _ c.self.view_is trees refl name c.args.at row plan c.requires.can c.fill.new.self.trees now c.rows-saved.ensures.ordered;
      bytes = λ fresh. c.self.invariant.bytes fresh;
      directory = λ fresh.
          row_directory c.args.self.now _ c.self.view_is trees refl name c.args.at row plan c.requires.can c.fill.new.self.trees now c.rows-saved.ensures.ordered c.make_changes.new.chain.segments segments
          c.self.inside.nbytes_name (c.self.invariant.directory fresh);
    }

pub returns-in-Err-clause-changes : goal.returns-in-Err-clause-changes
returns-in-Err-clause-changes g c t named =
    let s = c.args.self.now in
    let own = ap (λ (x : SessionState). x.segments) (sym c.self.view_is) ∙ sym (ap (λ (x : ChainState). x.segments) c.in_ok-reserve.ensures.ok) in
    let p = doing (filling_with s c.args.row.now.name c.args.entries t.fill) c.args.text.now c.args.cost in
    let changes = row_changes s _ c.self.view_is c.self.inside.filled.trees refl c.args.row.now.name c.args.at c.args.entries c.args.plan c.requires.can t named in
    record {
      time = c.make_changes.ensures.any_moment p s own changes;
      told = c.make_changes.ensures.writes.told;
      said = c.make_changes.ensures.writes.said;
      faults = (c.in-Err.ensures.cause.rose refl, c.make_changes.ensures.writes.say_faults);
      failed = refl;
    }

pub returns-in_err-answer-in-Ok-clause-changes : goal.returns-in_err-answer-in-Ok-clause-changes
returns-in_err-answer-in-Ok-clause-changes g c t named =
    let s = c.args.self.now in
    let name = c.args.row.now.name in
    let row = c.args.entries in
    let plan = c.args.plan in
    let trees = c.self.inside.filled.trees in
    let old = g.H.Host.view c.args.host.now in
    let mid = g.H.Host.view c.make_changes.new.host in
    let own = ap (λ (x : SessionState). x.segments) (sym c.self.view_is) ∙ sym (ap (λ (x : ChainState). x.segments) c.in_ok-reserve.ensures.ok) in
    let p = doing (filling_with s name row t.fill) c.args.text.now c.args.cost in
    let now : c.fill.new.self.trees ≡ changed_tree c.args.at (filled_then plan.baskets.ats plan.flags row) (changed_tree c.args.at (λ f. reserved f (Some row)) trees) =
    ap (λ (r : FilledRoom). r.trees) c.fill.ensures ∙ ap (λ (r : FilledRoom). changed_tree c.args.at (filled_then plan.baskets.ats plan.flags row) r.trees) c.in_ok-reserve-2.ensures.ok in
    let segments : c.make_changes.new.chain.segments ≡ all_stepped plan.baskets.steps.items c.self.inside.chain.segments =
    c.in-Ok.ensures.chain ∙ ap (λ (x : ChainState). all_stepped plan.baskets.steps.items x.segments) c.in_ok-reserve.ensures.ok in
    let kept = row_view s _ c.self.view_is trees refl name c.args.at row plan c.requires.can c.fill.new.self.trees now c.rows-saved.ensures.ordered c.make_changes.new.chain.segments segments t named in
    let u = c.in-Ok.ensures.done p s own (row_changes s _ c.self.view_is trees refl name c.args.at row plan c.requires.can t named) in
    let q = err_from_is_err_and c.from_residual-in_err-answer-in-Ok.result c.from_residual-in_err-answer-in-Ok.ensures.1 in
    let unsaid = not_said (Unit {0}) c.args.text.now c.args.cost _ _ _ _ c.in_err-answer-in-Ok.field-0.0 c.in_err-answer-in-Ok.ensures.fault c.in_err-answer-in-Ok.ensures.says in
    rw (q.1, q.2, c.in_err-answer-in-Ok.ensures.fault) (changed_not_said p old mid s _ u.time (all_reached p (length p.changes) old mid s _ u refl)
    (g.met.H.Host.lawful c.make_changes.new.host) c.in-Ok.ensures.quiet u.said kept
    (all_held p (length p.changes) old mid s _ u refl)
    (g.H.Host.view c.answer.new.host) c.answer.new.self (g.met.H.Host.lawful c.answer.new.host) unsaid u.told u.faults)

pub returns-in_ok-answer-in-Ok-clause-changes : goal.returns-in_ok-answer-in-Ok-clause-changes
returns-in_ok-answer-in-Ok-clause-changes g c t named =
    let s = c.args.self.now in
    let name = c.args.row.now.name in
    let row = c.args.entries in
    let plan = c.args.plan in
    let trees = c.self.inside.filled.trees in
    let old = g.H.Host.view c.args.host.now in
    let mid = g.H.Host.view c.make_changes.new.host in
    let own = ap (λ (x : SessionState). x.segments) (sym c.self.view_is) ∙ sym (ap (λ (x : ChainState). x.segments) c.in_ok-reserve.ensures.ok) in
    let p = doing (filling_with s name row t.fill) c.args.text.now c.args.cost in
    let now : c.fill.new.self.trees ≡ changed_tree c.args.at (filled_then plan.baskets.ats plan.flags row) (changed_tree c.args.at (λ f. reserved f (Some row)) trees) =
    ap (λ (r : FilledRoom). r.trees) c.fill.ensures ∙ ap (λ (r : FilledRoom). changed_tree c.args.at (filled_then plan.baskets.ats plan.flags row) r.trees) c.in_ok-reserve-2.ensures.ok in
    let segments : c.make_changes.new.chain.segments ≡ all_stepped plan.baskets.steps.items c.self.inside.chain.segments =
    c.in-Ok.ensures.chain ∙ ap (λ (x : ChainState). all_stepped plan.baskets.steps.items x.segments) c.in_ok-reserve.ensures.ok in
    let kept = row_view s _ c.self.view_is trees refl name c.args.at row plan c.requires.can c.fill.new.self.trees now c.rows-saved.ensures.ordered c.make_changes.new.chain.segments segments t named in
    let u = c.in-Ok.ensures.done p s own (row_changes s _ c.self.view_is trees refl name c.args.at row plan c.requires.can t named) in
    changed_and_said p old mid s _ u.time (all_reached p (length p.changes) old mid s _ u refl)
    (g.met.H.Host.lawful c.make_changes.new.host) c.in-Ok.ensures.quiet u.said kept
    (all_held p (length p.changes) old mid s _ u refl)
    (g.H.Host.view c.answer.new.host) c.answer.new.self (g.met.H.Host.lawful c.answer.new.host) c.in_ok-answer-in-Ok.ensures.says u.told u.faults

pub invariant_of-self-in_err-reserve-2 : goal.invariant_of-self-in_err-reserve-2
invariant_of-self-in_err-reserve-2 g c =
    let trees = c.self.inside.filled.trees in
    let chain = c.in_ok-reserve.ensures.ok in
    let same : map bare_tree c.reserve-2.new.self.trees ≡ map bare_tree trees = c.reserve-2.ensures.same in
    record {
      classes = c.self.invariant.classes;
      listed = c.self.invariant.listed;
      kept = λ fresh. subst (λ (x : List Segment × List FilledTree). IsClosableWith x.0 c.self.inside.table.heads x.1 c.self.inside.info c.self.inside.name)
          (λ i. (ap (λ (s : ChainState). s.segments) (sym chain) i, sym same i)) (c.self.invariant.kept fresh);
      fresh = λ fresh. ap (λ (s : ChainState). s.spent) chain ∙ c.self.invariant.fresh fresh;
      trees = c.self.invariant.trees ∙ sym (all_kept trees) ∙ ap (map kept_tree_of) (sym same) ∙ all_kept c.reserve-2.new.self.trees;
      due = λ fresh. c.self.invariant.due fresh ∙ sym (all_due trees) ∙ ap due_of (sym same) ∙ all_due c.reserve-2.new.self.trees;
      bytes = λ fresh. c.self.invariant.bytes fresh;
      directory = λ fresh. subst (HoldsDirectory c.self.inside.nbytes_name) (ap (λ (s : ChainState). s.segments) (sym chain)) (c.self.invariant.directory fresh);
    }

pub invariant_of-self-in-Err-1 : goal.invariant_of-self-in-Err-1
invariant_of-self-in-Err-1 g c =
    let trees = c.self.inside.filled.trees in
    let same : map bare_tree c.reserve-2.new.self.trees ≡ map bare_tree trees = c.reserve-2.ensures.same in
    record {
      classes = c.self.invariant.classes;
      listed = c.self.invariant.listed;
      kept = λ fresh. absurd (true≢false fresh);
      fresh = λ fresh. absurd (true≢false fresh);
      trees = c.self.invariant.trees ∙ sym (all_kept trees) ∙ ap (map kept_tree_of) (sym same) ∙ all_kept c.reserve-2.new.self.trees;
      due = λ fresh. absurd (true≢false fresh);
      bytes = λ fresh. absurd (true≢false fresh);
      directory = λ fresh. absurd (true≢false fresh);
    }

use Rattle.std.proofs.{Common.{◌≡◌, ◌∙◌, ◌+◌, ◌-◌, ◌<◌, ◌≤◌, ◌^◌, ℕ, List, None, length, sym, ap, subst, arith}, lemmas.{Option.{none-some}, Result.{err_from_is_err_and}}}
use Rattle.std.specs.{List.{find}, Option.{option_map}}
use Rattle.rio_chain.specs.{Adjoining.{AreSegments}, Placing.{end_after, places_of, space_of}, Plans.{IsFull}}
use Rattle.rio_fill.specs.Fill.{full_flags}
use Rattle.rio_session.specs.{Due.{due_of, due_of_fill}, Fills.{FilledTree, bare_tree, is_tree_of}, Noted.{PlansBaskets}, RowPlans.{due_changed, need_of_due}, Session.{SessionState}, TreeWorks.{due_behind}, declared.open_tree.Due.{Due}}
use Rattle.rio_session.proofs.{Bare.{bare_found}, Needs.{kept_bounds}, RowPlanned.{as_many, enough, fit_words, own_baskets, own_bytes, row_lacks, row_plan}}
use Rattle.rio_session.proofs.session.Session.plan_row.Goals as goal

pub unreachable-requires : goal.unreachable-requires
unreachable-requires c =
    let name = c.args.name.now in
    let trees = c.self.inside.filled.trees in
    let none : find (is_tree_of name) c.args.self.now.trees ≡ None =
    ap (λ (s : SessionState). find (is_tree_of name) s.trees) (sym c.self.view_is) ∙ bare_found name trees ∙ ap (option_map bare_tree) (sym c.in_default.ensures) in
    absurd (none-some c.requires.row.0 (sym none ∙ c.requires.row.1))

pub due_with-requires-clause-entries : goal.due_with-requires-clause-entries
due_with-requires-clause-entries c =
    as_many c.args.self.now c.self.inside.filled.trees (ap (λ (s : SessionState). s.trees) (sym c.self.view_is)) c.args.name.now c.in-Some.tree.now (sym c.in-Some.ensures) c.requires.row.0 c.requires.row.1 c.args.entries.now c.requires.row.2.each

pub due_with-due-requires-clause-bytes : goal.due_with-due-requires-clause-bytes
due_with-due-requires-clause-bytes c =
    let own = own_bytes c.args.self.now c.self.inside.filled.trees (ap (λ (s : SessionState). s.trees) (sym c.self.view_is)) c.args.name.now c.in-Some.tree.now (sym c.in-Some.ensures) in
    omega (arith, own, ap (λ (d : Due). d.bytes) c.due.ensures.exact)

pub due_with-due-requires-clause-baskets : goal.due_with-due-requires-clause-baskets
due_with-due-requires-clause-baskets c =
    let own = own_baskets c.args.self.now c.self.inside.filled.trees (ap (λ (s : SessionState). s.trees) (sym c.self.view_is)) c.args.name.now c.in-Some.tree.now (sym c.in-Some.ensures) in
    omega (arith, own, ap (λ (d : Due). d.baskets) c.due.ensures.exact)

pub need_behind-need-requires-clause-low : goal.need_behind-need-requires-clause-low
need_behind-need-requires-clause-low c =
    let s = c.args.self.now in
    let fresh = ap (λ (x : SessionState). x.failed) c.self.view_is ∙ c.requires.fresh in
    let b = kept_bounds _ _ _ _ _ (c.self.invariant.kept fresh) in
    let all = ap (λ (x : SessionState). due_of x.trees) c.self.view_is in
    let bytes = ap (λ (d : Due). d.bytes) c.due_with-due.ensures in
    let baskets = ap (λ (d : Due). d.baskets) c.due_with-due.ensures in (
      omega (arith, b.due, ap (λ (d : Due). d.bytes) all, bytes, c.due_with.ensures.low.0),
      omega (arith, b.count, ap (λ (d : Due). d.baskets) all, baskets, c.due_with.ensures.low.1),
      omega (arith, c.in_ok-lengths.ensures.few, c.len.ensures),
    )

pub plan_baskets-requires-clause-enough : goal.plan_baskets-requires-clause-enough
plan_baskets-requires-clause-enough c =
    enough c.args.self.now c.self.inside.filled.trees (ap (λ (s : SessionState). s.trees) (sym c.self.view_is)) c.args.name.now c.in-Some.tree.now (sym c.in-Some.ensures) c.args.entries.now c.full-flags.result
    (c.full-flags.ensures ∙ ap (λ (u : FilledTree). full_flags u.fill.branches c.args.entries.now) c.tree.view_is) c.in_ok-lengths.lengths c.in_ok-lengths.ensures.exact c.in_ok-places.places _ c.in_ok-places.ensures.places

pub plan_baskets-requires-clause-low : goal.plan_baskets-requires-clause-low
plan_baskets-requires-clause-low c =
    fit_words c.args.self.now c.self.inside.filled.trees (ap (λ (s : SessionState). s.trees) (sym c.self.view_is)) c.args.name.now c.in-Some.tree.now (sym c.in-Some.ensures) c.args.entries.now c.full-flags.result
    (c.full-flags.ensures ∙ ap (λ (u : FilledTree). full_flags u.fill.branches c.args.entries.now) c.tree.view_is) c.in_ok-lengths.lengths c.in_ok-lengths.ensures.exact c.self.inside.chain.segments c.end-end.ensures.shape
    (omega (arith, c.in_ok-places.ensures.fits, c.saturating_sub.ensures)) c.in_ok-places.places c.in_ok-places.ensures.places

pub returns-in_err-places-clause-full : goal.returns-in_err-places-clause-full
returns-in_err-places-clause-full c t found =
    let s = c.args.self.now in
    let v = c.self.view_is in
    let flags = c.full-flags.ensures ∙ ap (λ (u : FilledTree). full_flags u.fill.branches c.args.entries.now) c.tree.view_is in
    let due : c.due_with-due.result ≡ due_changed (due_of s.trees) (due_of_fill c.in-Some.tree.now.name c.in-Some.tree.now.fill) (due_behind c.in-Some.tree.now c.args.entries.now) =
    c.due_with-due.ensures ∙ (λ i. due_changed (due_of s.trees) (c.due.ensures.exact i) (c.due_with.ensures.exact i)) in
    let need : c.need_behind-need.result ≡ need_of_due s c.due_with-due.result (length c.in_ok-lengths.lengths) = c.need_behind-need.ensures ∙ ap (need_of_due s c.due_with-due.result) c.len.ensures in
    let fault = subst (λ (x : SessionState). IsFull x.segments c.in_ok-lengths.lengths c.saturating_sub.result c.in_err-places.field-0.0) v c.in_err-places.ensures.full in
    let lacks = row_lacks s c.self.inside.filled.trees (ap (λ (x : SessionState). x.trees) (sym v)) c.args.name.now c.in-Some.tree.now (sym c.in-Some.ensures) c.args.entries.now c.full-flags.result flags c.in_ok-lengths.lengths c.in_ok-lengths.ensures.exact
    c.due_with-due.result due c.need_behind-need.result need c.saturating_sub.result c.saturating_sub.ensures c.in_err-places.field-0.0 fault t found in
    let p = err_from_is_err_and c.from_residual-in_err-places.result c.from_residual-in_err-places.ensures.1 in
    rw (p.1, p.2) lacks

pub returns-clause-plan : goal.returns-clause-plan
returns-clause-plan c t found =
    let s = c.args.self.now in
    let v = c.self.view_is in
    let flags = c.full-flags.ensures ∙ ap (λ (u : FilledTree). full_flags u.fill.branches c.args.entries.now) c.tree.view_is in
    let due : c.due_with-due.result ≡ due_changed (due_of s.trees) (due_of_fill c.in-Some.tree.now.name c.in-Some.tree.now.fill) (due_behind c.in-Some.tree.now c.args.entries.now) =
    c.due_with-due.ensures ∙ (λ i. due_changed (due_of s.trees) (c.due.ensures.exact i) (c.due_with.ensures.exact i)) in
    let need : c.need_behind-need.result ≡ need_of_due s c.due_with-due.result (length c.in_ok-lengths.lengths) = c.need_behind-need.ensures ∙ ap (need_of_due s c.due_with-due.result) c.len.ensures in
    let shape : AreSegments s.segments = subst (λ (x : SessionState). AreSegments x.segments) v c.end-end.ensures.shape in
    let places = c.in_ok-places.ensures.places ∙ ap (λ (x : SessionState). places_of c.in_ok-lengths.lengths (space_of x.segments)) v in
    let end = subst (λ (x : SessionState). end_after c.in_ok-lengths.lengths (space_of x.segments) ≤ c.saturating_sub.result) v c.in_ok-places.ensures.fits in
    let date = ap (λ (x : SessionState). x.datime) v in
    let plans = subst (λ (d : ℕ). PlansBaskets d c.in-Some.tree.now c.full-flags.result c.in_ok-places.places c.in_ok-baskets.baskets.steps.items c.in_ok-baskets.baskets.ats) date c.in_ok-baskets.ensures in
    row_plan s c.self.inside.filled.trees (ap (λ (x : SessionState). x.trees) (sym v)) c.args.name.now c.in-Some.tree.now (sym c.in-Some.ensures) c.args.entries.now c.full-flags.result flags c.in_ok-lengths.lengths c.in_ok-lengths.ensures.exact
    c.due_with-due.result due c.need_behind-need.result need c.saturating_sub.result c.saturating_sub.ensures c.in_ok-places.places places end shape c.in_ok-baskets.baskets plans t found

use Rattle.std.proofs.Common.{◌≡◌, ◌∙◌, ◌+◌, ◌-◌, ◌<◌, ◌≤◌, ◌^◌, ℕ, List, map, ap, sym, arith}
use Rattle.rio_state.specs.Closing.{end_limit}
use Rattle.rio_session.specs.{Due.{due_of}, Fills.{FilledTree, bare_tree}, RowPlans.{due_changed}, Session.{SessionState}}
use Rattle.rio_session.specs.declared.open_tree.Due.{Due}
use Rattle.rio_session.proofs.{Bare.{all_due}, Needs.{kept_bounds}}
use Rattle.rio_session.proofs.session.Session.due_with.Goals as goal

pub overflow_sub-other_bytes : goal.overflow_sub-other_bytes
overflow_sub-other_bytes c =
    let fresh = ap (λ (s : SessionState). s.failed) c.self.view_is ∙ c.requires.fresh in
    let due = c.self.invariant.due fresh ∙ sym (all_due c.self.inside.filled.trees) ∙ ap (λ (s : SessionState). due_of s.trees) c.self.view_is in
    omega (arith, ap (λ (d : Due). d.bytes) due, c.requires.bytes)

pub overflow_sub-other_baskets : goal.overflow_sub-other_baskets
overflow_sub-other_baskets c =
    let fresh = ap (λ (s : SessionState). s.failed) c.self.view_is ∙ c.requires.fresh in
    let due = c.self.invariant.due fresh ∙ sym (all_due c.self.inside.filled.trees) ∙ ap (λ (s : SessionState). due_of s.trees) c.self.view_is in
    omega (arith, ap (λ (d : Due). d.baskets) due, c.requires.baskets)

pub overflow_add-bytes : goal.overflow_add-bytes
overflow_add-bytes c =
    let fresh = ap (λ (s : SessionState). s.failed) c.self.view_is ∙ c.requires.fresh in
    let b = kept_bounds _ _ _ _ _ (c.self.invariant.kept fresh) in
    omega (arith, b.due, ap (λ (d : Due). d.bytes) (c.self.invariant.due fresh), ap (λ (d : Due). d.bytes) (all_due c.self.inside.filled.trees), c.requires.low.0)

pub overflow_add-baskets : goal.overflow_add-baskets
overflow_add-baskets c =
    let fresh = ap (λ (s : SessionState). s.failed) c.self.view_is ∙ c.requires.fresh in
    let b = kept_bounds _ _ _ _ _ (c.self.invariant.kept fresh) in
    omega (arith, b.count, ap (λ (d : Due). d.baskets) (c.self.invariant.due fresh), ap (λ (d : Due). d.baskets) (all_due c.self.inside.filled.trees), c.requires.low.1)

pub returns : goal.returns
returns c =
    let fresh = ap (λ (s : SessionState). s.failed) c.self.view_is ∙ c.requires.fresh in
    let due : c.self.inside.due ≡ due_of c.args.self.now.trees = c.self.invariant.due fresh ∙ sym (all_due c.self.inside.filled.trees) ∙ ap (λ (s : SessionState). due_of s.trees) c.self.view_is in
    λ i. due_changed (due i) c.args.before c.args.after

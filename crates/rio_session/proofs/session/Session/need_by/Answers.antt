use Rattle.std.proofs.Common.{◌≡◌, ◌∙◌, ◌+◌, ◌≤◌, ℕ, List, ap, sym, arith, length, map}
use Rattle.rio_chain.specs.Placing.{record_count}
use Rattle.rio_state.specs.{Closing.{end_limit}, Sizes.{close_size}}
use Rattle.rio_session.specs.{Due.{due_of}, Fills.{FilledTree, bare_tree}, Session.{SessionState}}
use Rattle.rio_session.specs.declared.open_tree.Due.{Due}
use Rattle.rio_session.proofs.{Bare.{all_due}, FillSums.{size_low}, Needs.{kept_bounds}}
use Rattle.rio_session.proofs.session.Session.need_by.Goals as goal

pub overflow_add-all : goal.overflow_add-all
overflow_add-all c =
    let fresh = ap (λ (s : SessionState). s.failed) c.self.view_is ∙ c.requires.fresh in
    let b = kept_bounds _ _ _ _ _ (c.self.invariant.kept fresh) in
    omega (arith, c.requires.count, b.count, ap (λ (d : Due). d.baskets) (c.self.invariant.due fresh), ap (λ (d : Due). d.baskets) (all_due c.self.inside.filled.trees))

pub close_length-size-requires-clause-live : goal.close_length-size-requires-clause-live
close_length-size-requires-clause-live c =
    let fresh = ap (λ (s : SessionState). s.failed) c.self.view_is ∙ c.requires.fresh in
    let b = kept_bounds _ _ _ _ _ (c.self.invariant.kept fresh) in
    omega (arith, c.requires.count, b.count, ap (λ (d : Due). d.baskets) (c.self.invariant.due fresh), ap (λ (d : Due). d.baskets) (all_due c.self.inside.filled.trees))

pub overflow_add-result : goal.overflow_add-result
overflow_add-result c =
    let fresh = ap (λ (s : SessionState). s.failed) c.self.view_is ∙ c.requires.fresh in
    let kept = c.self.invariant.kept fresh in
    let b = kept_bounds _ _ _ _ _ kept in
    let due = c.self.invariant.due fresh in
    let bare = all_due c.self.inside.filled.trees in
    let few = size_low c.self.inside.name c.args.heads (c.args.count + c.self.inside.due.baskets) kept.closable.short c.requires.heads
    (omega (arith, c.requires.count, b.count, ap (λ (d : Due). d.baskets) due, ap (λ (d : Due). d.baskets) bare)) in
    omega (arith, few, c.close_length-size.ensures, ap (λ (n : List ℕ). close_size n c.args.heads (c.args.count + c.self.inside.due.baskets)) c.as_slice.ensures, b.due, ap (λ (d : Due). d.bytes) due, ap (λ (d : Due). d.bytes) bare)

pub returns : goal.returns
returns c =
    let s = c.args.self.now in
    let fresh = ap (λ (s : SessionState). s.failed) c.self.view_is ∙ c.requires.fresh in
    let names = c.as_slice.ensures ∙ ap (λ (s : SessionState). s.name) c.self.view_is in
    let due : c.self.inside.due ≡ due_of s.trees = c.self.invariant.due fresh ∙ sym (all_due c.self.inside.filled.trees) ∙ ap (λ (s : SessionState). due_of s.trees) c.self.view_is in
    ap (λ (n : ℕ). c.self.inside.due.bytes + n) c.close_length-size.ensures ∙ (λ i. (due i).bytes + close_size (names i) c.args.heads (c.args.count + (due i).baskets))

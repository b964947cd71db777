use Rattle.std.proofs.Common.{◌≡◌, ◌∙◌, ◌+◌, ◌-◌, ℕ, List, map, ap, sym, arith}
use Rattle.std.specs.{List.{find}, Option.{option_map}}
use Rattle.rio_session.specs.{Due.{due_of, due_of_fill}, Fills.{FilledTree, bare_tree, is_tree_of, without_filled}, Session.{SessionState}}
use Rattle.rio_session.specs.declared.open_tree.Due.{Due}
use Rattle.rio_session.proofs.{Bare.{all_due, bare_without}, FillSums.{sum_without}, TreePlaces.{none_removed}}
use Rattle.rio_session.proofs.session.Session.due_without.Goals as goal

pub overflow_sub-bytes : goal.overflow_sub-bytes
overflow_sub-bytes c =
    let fresh = ap (λ (s : SessionState). s.failed) c.self.view_is ∙ c.requires.fresh in
    let trees = c.self.inside.filled.trees in
    omega (arith, sum_without (λ (t : FilledTree). (due_of_fill t.name t.fill).bytes) c.args.name.now c.in-Some.tree.now trees (sym c.in-Some.ensures), ap (λ (d : Due). d.bytes) (c.self.invariant.due fresh), ap (λ (d : Due). d.bytes) c.due-own.ensures.exact)

pub overflow_sub-baskets : goal.overflow_sub-baskets
overflow_sub-baskets c =
    let fresh = ap (λ (s : SessionState). s.failed) c.self.view_is ∙ c.requires.fresh in
    let trees = c.self.inside.filled.trees in
    omega (arith, sum_without (λ (t : FilledTree). (due_of_fill t.name t.fill).baskets) c.args.name.now c.in-Some.tree.now trees (sym c.in-Some.ensures), ap (λ (d : Due). d.baskets) (c.self.invariant.due fresh), ap (λ (d : Due). d.baskets) c.due-own.ensures.exact)

pub returns-in-None : goal.returns-in-None
returns-in-None c =
    let fresh = ap (λ (s : SessionState). s.failed) c.self.view_is ∙ c.requires.fresh in
    let name = c.args.name.now in
    let trees = c.self.inside.filled.trees in
    c.self.invariant.due fresh
    ∙ ap due_of (sym (none_removed name trees (sym c.in-None.ensures)))
    ∙ sym (all_due (without_filled name trees))
    ∙ ap due_of (bare_without name trees)
    ∙ ap (λ (s : SessionState). due_of (without_filled name s.trees)) c.self.view_is

pub returns-in-Some : goal.returns-in-Some
returns-in-Some c =
    let fresh = ap (λ (s : SessionState). s.failed) c.self.view_is ∙ c.requires.fresh in
    let name = c.args.name.now in
    let trees = c.self.inside.filled.trees in
    let due = c.self.invariant.due fresh in
    let own = c.due-own.ensures.exact in
    let bytes : c.self.inside.due.bytes - c.due-own.result.bytes ≡ (due_of (without_filled name trees)).bytes =
    omega (arith, sum_without (λ (t : FilledTree). (due_of_fill t.name t.fill).bytes) name c.in-Some.tree.now trees (sym c.in-Some.ensures), ap (λ (d : Due). d.bytes) due, ap (λ (d : Due). d.bytes) own) in
    let baskets : c.self.inside.due.baskets - c.due-own.result.baskets ≡ (due_of (without_filled name trees)).baskets =
    omega (arith, sum_without (λ (t : FilledTree). (due_of_fill t.name t.fill).baskets) name c.in-Some.tree.now trees (sym c.in-Some.ensures), ap (λ (d : Due). d.baskets) due, ap (λ (d : Due). d.baskets) own) in
    (λ i. record { bytes = bytes i; baskets = baskets i })
    ∙ sym (all_due (without_filled name trees))
    ∙ ap due_of (bare_without name trees)
    ∙ ap (λ (s : SessionState). due_of (without_filled name s.trees)) c.self.view_is

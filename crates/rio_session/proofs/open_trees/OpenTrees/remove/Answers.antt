use Rattle.std.proofs.Common.{◌∙◌, ap, subst, sym, arith}
use Rattle.rio_session.specs.{Fills.{AreNamesOrdered, FilledRoom, is_tree_of}}
use Rattle.rio_session.proofs.FilledTable.{none_there, nothing_removed, ordered_without, removed_there, taken_there}
use Rattle.rio_session.proofs.open_trees.OpenTrees.remove.Goals as goal

pub invariant_of-self : goal.invariant_of-self
invariant_of-self c =
    let same = ap (λ (t : FilledRoom). t.trees) c.self.view_is in
    let gone = c.remove.ensures.items ∙ removed_there c.args.name.now c.self.inside.trees.items c.args.self.now.trees _ c.count_before-at.result same c.deref.ensures.value c.self.invariant.ordered c.count_before-at.ensures c.is_named_at.result c.is_named_at.ensures c.if-is_named_at.true in
    record { ordered = subst AreNamesOrdered (sym gone) (ordered_without (is_tree_of c.args.name.now) c.args.self.now.trees (subst AreNamesOrdered same c.self.invariant.ordered)); room = omega (arith, c.remove.ensures.len, c.remove.ensures.capacity, c.self.invariant.room) }

pub returns-then-is_named_at-clause-tree : goal.returns-then-is_named_at-clause-tree
returns-then-is_named_at-clause-tree c =
    let same = ap (λ (t : FilledRoom). t.trees) c.self.view_is in
    sym (taken_there c.args.name.now c.self.inside.trees.items c.args.self.now.trees _ c.count_before-at.result same c.deref.ensures.value c.self.invariant.ordered c.count_before-at.ensures c.is_named_at.result c.is_named_at.ensures c.if-is_named_at.true c.remove.result c.remove.ensures.value)

pub returns-then-is_named_at-clause-rest : goal.returns-then-is_named_at-clause-rest
returns-then-is_named_at-clause-rest c =
    let same = ap (λ (t : FilledRoom). t.trees) c.self.view_is in
    let whole = c.remove.ensures.items ∙ removed_there c.args.name.now c.self.inside.trees.items c.args.self.now.trees _ c.count_before-at.result same c.deref.ensures.value c.self.invariant.ordered c.count_before-at.ensures c.is_named_at.result c.is_named_at.ensures c.if-is_named_at.true in
    let spare = ap (λ (t : FilledRoom). t.spare) c.self.view_is in
    λ i. record { trees = whole i; spare = spare i }

pub returns-else-is_named_at-clause-tree : goal.returns-else-is_named_at-clause-tree
returns-else-is_named_at-clause-tree c =
    let same = ap (λ (t : FilledRoom). t.trees) c.self.view_is in
    sym (none_there c.args.name.now c.self.inside.trees.items c.args.self.now.trees _ c.count_before-at.result same c.deref.ensures.value c.self.invariant.ordered c.count_before-at.ensures c.is_named_at.result c.is_named_at.ensures c.if-is_named_at.false)

pub returns-else-is_named_at-clause-rest : goal.returns-else-is_named_at-clause-rest
returns-else-is_named_at-clause-rest c =
    let same = ap (λ (t : FilledRoom). t.trees) c.self.view_is in
    let none = none_there c.args.name.now c.self.inside.trees.items c.args.self.now.trees _ c.count_before-at.result same c.deref.ensures.value c.self.invariant.ordered c.count_before-at.ensures c.is_named_at.result c.is_named_at.ensures c.if-is_named_at.false in
    let whole = sym (nothing_removed (is_tree_of c.args.name.now) c.args.self.now.trees none) in
    λ i. record { trees = whole i; spare = c.args.self.now.spare }

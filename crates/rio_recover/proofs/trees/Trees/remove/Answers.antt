use Rattle.std.proofs.Common.{◌∙◌, subst, sym}
use Rattle.rio_recover.specs.TreeTable.{AreInOrder, has_name}
use Rattle.rio_recover.proofs.TreesTaken.{none_there, nothing_removed, ordered_without, removed_there, taken_there}
use Rattle.rio_recover.proofs.trees.Trees.remove.Goals as goal

pub invariant_of-self : goal.invariant_of-self
invariant_of-self c =
    let gone = c.remove.ensures.items ∙ removed_there c.args.name.now c.self.inside.trees.items c.args.self.now _ c.count_before-at.result c.self.view_is c.deref.ensures.value c.self.invariant c.count_before-at.ensures c.is_name_at.result c.is_name_at.ensures c.if-is_name_at.true in
    subst AreInOrder (sym gone) (ordered_without (has_name c.args.name.now) c.args.self.now (subst AreInOrder c.self.view_is c.self.invariant))

pub returns-then-is_name_at-clause-tree : goal.returns-then-is_name_at-clause-tree
returns-then-is_name_at-clause-tree c =
    sym (taken_there c.args.name.now c.self.inside.trees.items c.args.self.now _ c.count_before-at.result c.self.view_is c.deref.ensures.value c.self.invariant c.count_before-at.ensures c.is_name_at.result c.is_name_at.ensures c.if-is_name_at.true c.remove.result c.remove.ensures.value)

pub returns-then-is_name_at-clause-rest : goal.returns-then-is_name_at-clause-rest
returns-then-is_name_at-clause-rest c =
    c.remove.ensures.items ∙ removed_there c.args.name.now c.self.inside.trees.items c.args.self.now _ c.count_before-at.result c.self.view_is c.deref.ensures.value c.self.invariant c.count_before-at.ensures c.is_name_at.result c.is_name_at.ensures c.if-is_name_at.true

pub returns-else-is_name_at-clause-tree : goal.returns-else-is_name_at-clause-tree
returns-else-is_name_at-clause-tree c =
    sym (none_there c.args.name.now c.self.inside.trees.items c.args.self.now _ c.count_before-at.result c.self.view_is c.deref.ensures.value c.self.invariant c.count_before-at.ensures c.is_name_at.result c.is_name_at.ensures c.if-is_name_at.false)

pub returns-else-is_name_at-clause-rest : goal.returns-else-is_name_at-clause-rest
returns-else-is_name_at-clause-rest c =
    let none = none_there c.args.name.now c.self.inside.trees.items c.args.self.now _ c.count_before-at.result c.self.view_is c.deref.ensures.value c.self.invariant c.count_before-at.ensures c.is_name_at.result c.is_name_at.ensures c.if-is_name_at.false in
    sym (nothing_removed c.args.name.now c.args.self.now none)

use Rattle.std.proofs.Common.{◌∙◌, ap}
use Rattle.rio_session.specs.Fills.{FilledRoom}
use Rattle.rio_session.proofs.FilledTable.{none_there, there_at}
use Rattle.rio_session.proofs.open_trees.OpenTrees.position.Goals as goal

pub returns-then-is_named_at-clause-at : goal.returns-then-is_named_at-clause-at
returns-then-is_named_at-clause-at c =
    let same = ap (λ (t : FilledRoom). t.trees) c.self.view_is in
    there_at c.args.name.now c.self.inside.trees.items c.args.self.now.trees _ c.count_before-at.result same c.deref.ensures.value c.self.invariant.ordered c.count_before-at.ensures c.is_named_at.result c.is_named_at.ensures c.if-is_named_at.true

pub returns-else-is_named_at-clause-none : goal.returns-else-is_named_at-clause-none
returns-else-is_named_at-clause-none c none =
    let same = ap (λ (t : FilledRoom). t.trees) c.self.view_is in
    none_there c.args.name.now c.self.inside.trees.items c.args.self.now.trees _ c.count_before-at.result same c.deref.ensures.value c.self.invariant.ordered c.count_before-at.ensures c.is_named_at.result c.is_named_at.ensures c.if-is_named_at.false

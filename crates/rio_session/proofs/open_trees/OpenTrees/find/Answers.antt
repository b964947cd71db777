use Rattle.std.proofs.Common.{◌∙◌, ap}
use Rattle.rio_session.specs.{Fills.{FilledRoom}}
use Rattle.rio_session.proofs.FilledTable.{found_there}
use Rattle.rio_session.proofs.open_trees.OpenTrees.find.Goals as goal

pub returns : goal.returns
returns c =
    let same = ap (λ (t : FilledRoom). t.trees) c.self.view_is in
    c.named_at.ensures
    ∙ found_there c.args.name.now c.self.inside.trees.items c.args.self.now.trees _ c.count_before-at.result same c.deref.ensures.value c.self.invariant.ordered c.count_before-at.ensures

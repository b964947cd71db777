use Rattle.std.proofs.Common.{◌∙◌}
use Rattle.rio_session.proofs.BoundsKept.{bounded_alike, header_alike}
use Rattle.rio_session.proofs.open_trees.reserve_in.Goals as goal

pub invariant_of-tree : goal.invariant_of-tree
invariant_of-tree c =
    let t = c.tree.inside in
    let same = c.reserve.ensures.same.branches in
    record {
      header = c.tree.invariant.header ∙ header_alike t.name t.filler c.reserve.new.self same;
      bounded = bounded_alike t.name t.filler c.reserve.new.self same c.tree.invariant.bounded;
    }

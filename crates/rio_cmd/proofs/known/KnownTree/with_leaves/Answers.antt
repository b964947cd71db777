use Rattle.std.proofs.Common.{refl}
use Rattle.rio_cmd.proofs.KnownTrees.{branch_known}
use Rattle.rio_cmd.proofs.known.KnownTree.with_leaves.Goals as goal

pub invariant_of-result : goal.invariant_of-result
invariant_of-result c =
    let inside = c.self.inside in
    branch_known inside.branches inside.own inside.branch_names inside.leaf_names inside.counters c.self.invariant _ c.new.result _ _ c.in_ok-put_branch.ensures.branch refl c.new.ensures c.in_ok-put_branch.ensures.name

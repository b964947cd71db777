use Rattle.std.proofs.Common.{◌≡◌, [], sym}
use Rattle.rio_cmd.proofs.KnownTrees.{branch_known}
use Rattle.rio_cmd.proofs.known.KnownTree.with_class.Goals as goal

pub invariant_of-result : goal.invariant_of-result
invariant_of-result c =
    let inside = c.self.inside in
    let none : inside.own ≡ [] = cc in
    branch_known inside.branches inside.own inside.branch_names inside.leaf_names inside.counters c.self.invariant _ inside.own _ _ c.in_ok-put_branch.ensures.branch (sym none) none c.in_ok-put_branch.ensures.name

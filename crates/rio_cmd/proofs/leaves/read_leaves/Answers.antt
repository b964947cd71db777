use Rattle.rio_leaf.specs.Stated.{all_leaves}
use Rattle.rio_cmd.proofs.LeafLaws.{first_leaf}
use Rattle.rio_cmd.proofs.leaves.read_leaves.Goals as goal

pub returns-clause-leaves : goal.returns-clause-leaves
returns-clause-leaves c =
    let start = first_leaf (all_leaves c.args.tree.branches) c.args.tree.own c.args.tokens.now _ _ c.requires c.in_ok-leaf.ensures in
    rw start (rw c.in_ok-first.ensures at c.read_more_leaves.ensures.leaves)

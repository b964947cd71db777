use Rattle.rio_tree.specs.WrittenTree.{plain_branch_object}
use Rattle.rio_tree.proofs.written.plain_branch_object.Goals as goal

pub returns-clause-object : goal.returns-clause-object
unfolding plain_branch_object
returns-clause-object c =
    simp (
      c.in_ok-with_baskets.ensures,
      c.in_ok-parts.ensures,
      c.in_ok-array_object-3.ensures,
      c.new-2.ensures,
      c.in_ok-with-2.ensures,
      c.in_ok-array_object-2.ensures,
      c.in_ok-leaf_pointers.ensures.pointers,
      c.leaves_of-leaves.ensures,
      c.in_ok-with.ensures,
      c.in_ok-array_object.ensures,
      c.new.ensures,
      c.in_ok-branch_numbers.ensures,
    ) at c.object.ensures

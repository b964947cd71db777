use Rattle.rio_tree.specs.WrittenTree.{tree_value_of}
use Rattle.rio_tree.proofs.written.tree_value.Goals as goal

pub returns : goal.returns
unfolding tree_value_of
returns c =
    simp (
      c.in_ok-with-3.ensures,
      c.in_ok-array_object-2.ensures,
      c.in_ok-leaf_backs.ensures,
      c.in_ok-with-2.ensures,
      c.in_ok-array_object.ensures,
      c.in_ok-branch_pointers.ensures,
      c.in_ok-with_number.ensures,
      c.in_ok-with.ensures,
      c.in_ok-named.ensures,
      c.as_slice-branches.ensures,
      c.new-2.ensures,
      c.new.ensures,
    ) at c.object.ensures

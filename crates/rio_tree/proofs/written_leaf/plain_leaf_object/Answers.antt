use Rattle.rio_tree.specs.WrittenTree.{plain_leaf_object}
use Rattle.rio_tree.proofs.written_leaf.plain_leaf_object.Goals as goal

pub returns : goal.returns
unfolding plain_leaf_object
returns c =
    simp (
      c.in_ok-with-3.ensures,
      c.counter_pointer.ensures,
      c.in_ok-with-2.ensures,
      c.is_unsigned.ensures,
      c.in_ok-with_number-2.ensures,
      c.width_of_letter.ensures,
      c.in_ok-with_number.ensures,
      c.count_of.ensures,
      c.in_ok-with.ensures,
      c.in_ok-named.ensures,
      c.in_ok-leaf_title.ensures,
      c.as_slice.ensures,
      c.new.ensures,
    ) at c.object.ensures

use Rattle.rio_format.specs.WrittenList.{array_object}
use Rattle.rio_format.proofs.part_list.array_object.Goals as goal

pub returns : goal.returns
unfolding array_object
returns c =
    simp (
      c.in_ok-with-2.ensures,
      c.in_ok-with_number.ensures,
      c.in_ok-with_text.ensures,
      c.in_ok-with.ensures,
      c.in_ok-plain_object.ensures,
      c.new.ensures,
    ) at c.object.ensures

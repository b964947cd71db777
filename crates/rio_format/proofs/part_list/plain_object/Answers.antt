use Rattle.rio_format.specs.WrittenList.{plain_object}
use Rattle.rio_format.proofs.part_list.plain_object.Goals as goal

pub returns : goal.returns
unfolding plain_object
returns c = simp (c.in_ok-with_number-2.ensures, c.in_ok-with_number.ensures, c.new.ensures) at c.object.ensures

use Rattle.std.proofs.Common.{append_assoc}
use Rattle.rio_tree.proofs.written.with_baskets.Goals as goal

pub returns : goal.returns
returns c =
    simp (
      c.in_ok-with-2.ensures,
      c.in_ok-with.ensures,
      c.in_ok-basket_numbers-3.ensures,
      c.in_ok-basket_numbers-2.ensures,
      c.in_ok-basket_numbers.ensures,
      c.as_slice-baskets.ensures,
      append_assoc,
    ) at c.with-3.ensures

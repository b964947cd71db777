-- The comparisons of lists of values and of parts tell whether they are the same.
use Rattle.std.proofs.Common.{◌≡◌, List, Decides}
use Rattle.std.specs.Cmp.Lexicographic.{pointwise, pointwise_decides}
use Rattle.rio_format.specs.{CodeLaws.{coded_decides}, Codes.{is_coded_same}, declared.value.Part.{Part}, declared.value.Value.{Value}}
use Rattle.rio_format.specs.contracts.value.Part as parts
use Rattle.rio_format.specs.contracts.value.Value as values

pub values_decide : (a b : List Value) → Decides (pointwise (is_coded_same values.the_row.coded) a b) (a ≡ b)
values_decide = pointwise_decides (coded_decides values.the_row.coded)

pub parts_decide : (a b : List Part) → Decides (pointwise (is_coded_same parts.the_row.coded) a b) (a ≡ b)
parts_decide = pointwise_decides (coded_decides parts.the_row.coded)

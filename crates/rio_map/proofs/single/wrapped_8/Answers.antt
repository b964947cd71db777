use Rattle.std.proofs.{Common.{◌≡◌, ◌∙◌, rules, SFits, w8}, lemmas.Int.{to_z-of_z}}
use Rattle.std.specs.Int.{cast_signed, w128}
use Rattle.rio_map.proofs.WrapLaws.{wraps_8}
use Rattle.rio_map.proofs.single.wrapped_8.Goals as goal

pub returns : goal.returns
returns c =
    let fits : SFits w8 c.cast_signed.result = search rules in
    let is : c.cast_signed.result ≡ cast_signed w8 c.low_8.result = search rules in
    let range : SFits w128 c.args.number = search rules in
    let low = simp to_z-of_z at c.low_8.ensures in
    to_z-of_z w8 c.cast_signed.result fits ∙ is ∙ wraps_8 c.low_8.result c.args.number low

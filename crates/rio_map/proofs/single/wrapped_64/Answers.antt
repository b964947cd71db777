use Rattle.std.proofs.{Common.{◌≡◌, ◌∙◌, rules, SFits, w64}, lemmas.Int.{to_z-of_z}}
use Rattle.std.specs.Int.{cast_signed, w128}
use Rattle.rio_map.proofs.WrapLaws.{wraps_64}
use Rattle.rio_map.proofs.single.wrapped_64.Goals as goal

pub returns : goal.returns
returns c =
    let fits : SFits w64 c.cast_signed.result = search rules in
    let is : c.cast_signed.result ≡ cast_signed w64 c.low_64.result = search rules in
    let range : SFits w128 c.args.number = search rules in
    let low = simp to_z-of_z at c.low_64.ensures in
    to_z-of_z w64 c.cast_signed.result fits ∙ is ∙ wraps_64 c.low_64.result c.args.number low

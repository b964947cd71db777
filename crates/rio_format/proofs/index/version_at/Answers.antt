use Rattle.std.proofs.{Common.{◌≡◌, w32, w64, to_z, of_z, arith, ℤ, ap, ◌∙◌}, lemmas.Int.{to_z-of_z}}
use Rattle.rio_format.specs.Index.{has_number, number_place, passing, version_of}
use Rattle.rio_format.proofs.index.version_at.Goals as goal

pub returns : goal.returns
returns c =
    let cs = c.args.classes.now in
    let key : to_z w64 (of_z w64 c.from.result) ≡ c.args.version = grind (arith, to_z-of_z) in
    let same : to_z w32 (of_z w32 c.args.version) ≡ c.args.version = grind (arith, to_z-of_z) in
    c.version_passing.ensures
    ∙ ap (λ (z : ℤ). passing (has_number version_of c.args.name.now z) cs c.copied.result) same
    ∙ ap (passing (has_number version_of c.args.name.now c.args.version) cs) (c.copied.ensures ∙ c.get.ensures.value ∙ ap (λ (z : ℤ). number_place c.args.versions.now c.args.first z) key)

use Rattle.std.proofs.{Common.{◌≡◌, w32, to_z, of_z, arith, ℤ, sym, ap, ◌∙◌}, lemmas.Int.{to_z-of_z}}
use Rattle.std.specs.{List.{slice_get}, Option.{option_and_then}}
use Rattle.rio_format.specs.Index.{has_number, number_place, passing, version_of}
use Rattle.rio_format.proofs.{LeadLaws.{no_name_no_number, number_is_found}, PlaceLaws.{place-find}}
use Rattle.rio_format.proofs.index.Index.find.Goals as goal

pub returns-in_err-first : goal.returns-in_err-first
returns-in_err-first c =
    let cs = c.args.classes.now in
    ap (option_and_then (slice_get cs)) (c.from_residual.ensures ∙ sym (no_name_no_number version_of c.args.classes.now c.args.name.now c.args.version (sym c.first.ensures ∙ c.in_err-first.was)))
    ∙ place-find (has_number version_of c.args.name.now c.args.version) cs

pub returns : goal.returns
returns c =
    let first = c.in_ok-first.first in
    let same : to_z w32 (of_z w32 c.args.version) ≡ c.args.version = grind (arith, to_z-of_z) in
    ap (option_and_then (slice_get c.args.classes.now)) (c.version_at.ensures
    ∙ ap (λ (z : ℤ). passing (has_number version_of c.args.name.now z) c.args.classes.now (number_place c.args.self.now.versions first z)) same
    ∙ number_is_found version_of c.args.classes.now (number_place c.args.self.now.versions) c.args.name.now c.args.version first c.requires.versions_lead (sym c.first.ensures ∙ c.in_ok-first.was))
    ∙ place-find (has_number version_of c.args.name.now c.args.version) c.args.classes.now

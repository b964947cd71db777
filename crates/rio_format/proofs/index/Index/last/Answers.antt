use Rattle.std.proofs.Common.{length, sym, ◌∙◌}
use Rattle.rio_format.specs.Places.{is_named}
use Rattle.rio_format.proofs.{ChainLaws.{last_none}, PlaceLaws.{no_place_fails}}
use Rattle.rio_format.proofs.index.Index.last.Goals as goal

pub returns-in_err-first : goal.returns-in_err-first
returns-in_err-first c =
    let test = is_named c.args.name.now in
    c.from_residual.ensures
    ∙ sym (last_none test c.args.classes.now (length c.args.classes.now) (λ k x here. no_place_fails test c.args.classes.now k x (sym c.first.ensures ∙ c.in_err-first.was) here))

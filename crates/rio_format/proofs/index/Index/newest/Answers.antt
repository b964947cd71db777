use Rattle.std.proofs.Common.{ℕ, List, sym, ap, ◌∙◌}
use Rattle.std.specs.{List.{slice_get}, Option.{option_and_then}}
use Rattle.rio_format.proofs.NewestLaws.{no_place_no_newest}
use Rattle.rio_format.proofs.index.Index.newest.Goals as goal

pub returns-in_err-first : goal.returns-in_err-first
returns-in_err-first c =
    ap (option_and_then (slice_get c.args.classes.now)) c.from_residual.ensures
    ∙ sym (no_place_no_newest c.args.classes.now c.args.name.now (sym c.first.ensures ∙ c.in_err-first.was))

pub returns : goal.returns
returns c =
    ap (option_and_then (slice_get c.args.classes.now)) (c.place_at.ensures ∙ ap (λ (xs : List ℕ). slice_get xs c.in_ok-first.first) c.as_slice.ensures.value)
    ∙ c.requires.newest_lead c.args.name.now c.in_ok-first.first (sym c.first.ensures ∙ c.in_ok-first.was)

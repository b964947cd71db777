use Rattle.std.proofs.Common.{◌∙◌, ap, slice_get}
use Rattle.std.specs.Prelude.{option_and_then}
use Rattle.rio_recover.specs.Baskets.{if_at_place}
use Rattle.rio_recover.proofs.PlacesSought.{searched}
use Rattle.rio_recover.proofs.baskets.head_at.Goals as goal

pub returns : goal.returns
returns c =
    let heads = c.args.heads.now in
    let place = c.args.place in
    c.at_place.ensures ∙ ap (λ k. option_and_then (if_at_place place) (slice_get heads k)) c.count_before.ensures ∙ searched place 0 heads c.requires

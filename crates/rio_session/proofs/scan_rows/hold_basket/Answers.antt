use Rattle.std.proofs.{Common.{length, refl, sym, subst, ◌∙◌}, lemmas.Option.{same_Some, slice_get_past, slice_get_read}}
use Rattle.std.specs.List.{Contains}
use Rattle.rio_chain.specs.Segments.{RecordAt}
use Rattle.rio_tree.specs.declared.basket_at.BasketAt.{BasketAt}
use Rattle.rio_session.proofs.scan_rows.hold_basket.Goals as goal

pub returns-in_ok-found-in-Some-clause-held : goal.returns-in_ok-found-in-Some-clause-held
returns-in_ok-found-in-Some-clause-held g c = λ file links told chain held at stands bytes among.
    let baskets = c.args.baskets.now in
    let there = slice_get_read baskets (length baskets) c.basket_from-number.result c.in-Some.at.now refl c.in-Some.ensures.lookup.3.0 c.in-Some.ensures.lookup.1 in
    let same = same_Some c.in-Some.at.now at (sym there ∙ stands) in
    c.in_ok-found-in-Some.ensures.found file links told chain bytes (subst (λ (a : BasketAt). Contains links (RecordAt a.seek bytes)) (sym same) among)

pub returns-in-None-clause-held : goal.returns-in-None-clause-held
returns-in-None-clause-held g c = λ file links told chain held at stands bytes among.
    let none = sym (slice_get_past c.args.baskets.now c.basket_from-number.result c.in-None.ensures.lookup.3) ∙ stands in absurd cc

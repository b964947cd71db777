use Rattle.std.proofs.Common.{ℕ, List, slice_get, sym, ap, ◌∙◌}
use Rattle.std.specs.Option.{option_copied}
use Rattle.rio_session.specs.{Fills.{FilledTree}, Measures.{basket_size}}
use Rattle.rio_session.proofs.PutOpen.{open_length_is}
use Rattle.rio_session.proofs.open_baskets.open_length.Goals as goal

pub returns-in-Some-Some-clause-exact : goal.returns-in-Some-Some-clause-exact
returns-in-Some-Some-clause-exact c b here =
    let bs = c.tree.inside.filler.branches in
    let def = c.in-Some-Some.def.now in
    let named = c.as_slice.ensures ∙ ap (λ (t : FilledTree). t.name) c.tree.view_is in
    let there = ap (λ (t : FilledTree). slice_get t.fill.branches c.args.k) c.tree.view_is ∙ here in
    open_length_is bs c.args.k def (sym (ap option_copied c.in-Some-Some.is-0) ∙ c.def.ensures) c.in-Some-Some.basket.now (sym (ap option_copied c.in-Some-Some.is-1) ∙ c.basket.ensures) b there
    c.args.tree.now.name c.count.result c.entries_length.result c.basket_length.result c.padded.result c.count.ensures c.entries_length.ensures
    (c.basket_length.ensures.exact ∙ ap (λ (n : List ℕ). basket_size n def c.count.result c.entries_length.result) named) c.padded.ensures

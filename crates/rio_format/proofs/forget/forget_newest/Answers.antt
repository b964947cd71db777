use Rattle.std.proofs.{Common.{ℕ, List, [], ◌∷◌, set, subst, sym, ◌∙◌, arith}, lemmas.List.{length-append}}
use Rattle.rio_format.specs.{Index.{NewestLead}, Places.{is_named}}
use Rattle.rio_format.proofs.{ForgetLaws.{back_alone, back_beside}, NewestLaws.{place_below}}
use Rattle.rio_format.proofs.forget.forget_newest.Goals as goal

pub index_mut-requires : goal.index_mut-requires
index_mut-requires c =
    let below = place_below (is_named c.args.class.now.name) c.args.classes.now c.in-Some.first (sym c.requires.first ∙ c.in-Some.is) in
    omega (arith, below, length-append c.args.classes.now (c.args.class.now ∷ []), c.requires.one_each, c.truncate.ensures.len)

pub returns-in-Some-clause-leads : goal.returns-in-Some-clause-leads
returns-in-Some-clause-leads c =
    let P : List ℕ → Type 0 = λ xs. NewestLead c.args.classes.now (set xs c.in-Some.first c.newest_place_of.result) in
    subst P (sym c.truncate.ensures.items)
    (back_beside c.args.classes.now c.args.class.now c.args.newest.now.items c.requires.lead c.requires.one_each c.in-Some.first c.newest_place_of.result (sym c.requires.first ∙ c.in-Some.is)
    c.newest_place_of.ensures)

pub returns-in_default-clause-leads : goal.returns-in_default-clause-leads
returns-in_default-clause-leads c =
    let P : List ℕ → Type 0 = λ xs. NewestLead c.args.classes.now xs in
    subst P (sym c.truncate.ensures.items)
    (back_alone c.args.classes.now c.args.class.now c.args.newest.now.items c.requires.lead c.requires.one_each (sym c.requires.first ∙ c.in_default.is))

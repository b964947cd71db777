use Rattle.std.proofs.{Common.{◌≡◌, ◌<◌, ℕ, List, [], ◌∷◌, ◌++◌, length, get_or, set, subst, sym, ap, ◌∙◌, arith}, lemmas.List.{length-append}}
use Rattle.std.proofs.lemmas.Option.{get_or_from_slice_get, slice_get-get_or}
use Rattle.rio_format.specs.{Index.{newest_place, NewestLead}, Places.{is_named}}
use Rattle.rio_format.proofs.NewestLaws.{newest_leads, place_below}
use Rattle.rio_format.proofs.index.put_newest.Goals as goal

pub index-requires : goal.index-requires
index-requires c =
    let below = place_below (is_named c.args.class.now.name) (c.args.classes.now ++ c.args.class.now ∷ []) c.args.first c.requires.first in
    omega (arith, below, length-append c.args.classes.now (c.args.class.now ∷ []), c.requires.one_each, c.in_ok-push.ensures.len)

pub index_mut-requires : goal.index_mut-requires
index_mut-requires c =
    let below = place_below (is_named c.args.class.now.name) (c.args.classes.now ++ c.args.class.now ∷ []) c.args.first c.requires.first in
    omega (arith, below, length-append c.args.classes.now (c.args.class.now ∷ []), c.requires.one_each, c.in_ok-push.ensures.len)

pub returns-clause-leads : goal.returns-clause-leads
returns-clause-leads c =
    let cs = c.args.classes.now in
    let new = c.args.class.now in
    let f = c.args.first in
    let pushed = c.args.newest.now.items ++ length cs ∷ [] in
    let items : c.push.new.self.items ≡ pushed = c.in_ok-push.ensures.items in
    let r = c.index.result.now in
    let below = place_below (is_named new.name) (cs ++ new ∷ []) f c.requires.first in
    let within : f < length pushed = omega (arith, below, length-append cs (new ∷ []), length-append c.args.newest.now.items (length cs ∷ []), c.requires.one_each) in
    let read : r ≡ get_or pushed f 0 =
    c.index.ensures
    ∙ ap (λ (xs : List ℕ). get_or xs f r) items
    ∙ sym (get_or_from_slice_get pushed f (get_or pushed f r) 0 (slice_get-get_or pushed f r within)) in
    let is : set c.push.new.self.items f c.newest_place.result ≡ set pushed f (newest_place cs new (get_or pushed f 0)) =
    ap (λ (xs : List ℕ). set xs f c.newest_place.result) items
    ∙ ap (set pushed f) (c.newest_place.ensures ∙ ap (newest_place cs new) read) in
    let P : List ℕ → Type 0 = λ xs. NewestLead (cs ++ new ∷ []) xs in
    subst P (sym is) (newest_leads cs new c.args.newest.now.items f c.requires.lead c.requires.one_each c.requires.first)

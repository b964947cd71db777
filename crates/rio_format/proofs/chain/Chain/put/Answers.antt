use Rattle.std.proofs.Common.{◌≡◌, ℕ, List, [], ◌∷◌, ◌++◌, length, set, Option, Some, None, subst, sym, ap, ◌∙◌, arith}
use Rattle.std.proofs.lemmas.List.{length-append, length-set}
use Rattle.std.specs.{List.{slice_get}, Option.{option_and_then}}
use Rattle.rio_format.specs.{Chain.{BeforeLead, LastLead, last_before}, Places.{is_named}}
use Rattle.rio_format.proofs.{ChainLaws.{put_before, put_befores, put_last}, NewestLaws.{place_below}}
use Rattle.rio_format.proofs.chain.Chain.put.Goals as goal

pub index_mut-requires : goal.index_mut-requires
index_mut-requires c =
    let below = place_below (is_named c.args.class.now.name) (c.args.classes.now ++ c.args.class.now ∷ []) c.args.first c.requires.first in
    omega (arith, below, length-append c.args.classes.now (c.args.class.now ∷ []), c.requires.chain.one_last, c.in_ok-push-2.ensures.len, c.in_ok-reserve.ensures.len)

pub returns-clause-ok : goal.returns-clause-ok
returns-clause-ok c =
    let old = c.requires.chain in
    let cs = c.args.classes.now in
    let new = c.args.class.now in
    let f = c.args.first in
    let last = c.args.self.now.last.items in
    let before = c.args.self.now.before.items in
    let lasts : c.push-2.new.self.items ≡ last ++ None ∷ [] = c.in_ok-push-2.ensures.items ∙ ap (λ (xs : List (Option ℕ)). xs ++ None ∷ []) c.in_ok-reserve.ensures.items in
    let kept : c.last-before.result ≡ last_before (is_named new.name) cs (length cs) =
    c.last-before.ensures
    ∙ ap (λ (xs : List (Option ℕ)). option_and_then (λ place. place) (slice_get xs f)) c.in_ok-reserve.ensures.items
    ∙ put_before cs new f last before old.last_leads old.before_leads old.one_last old.one_before c.requires.first in
    let befores : c.push.new.self.items ≡ before ++ last_before (is_named new.name) cs (length cs) ∷ [] =
    c.in_ok-push.ensures.items ∙ ap (λ (o : Option ℕ). before ++ o ∷ []) kept in
    record {
      last_leads = subst (λ (xs : List (Option ℕ)). LastLead (cs ++ new ∷ []) (set xs f (Some (length cs)))) (sym lasts) (put_last cs new f last before old.last_leads old.before_leads old.one_last old.one_before c.requires.first);
      before_leads = subst (λ (xs : List (Option ℕ)). BeforeLead (cs ++ new ∷ []) xs) (sym befores) (put_befores cs new f last before old.last_leads old.before_leads old.one_last old.one_before c.requires.first);
      one_last = omega (arith, length-set c.push-2.new.self.items f (Some (length cs)), ap length lasts, length-append last (None ∷ []), length-append cs (new ∷ []), old.one_last);
      one_before = omega (arith, ap length befores, length-append before (last_before (is_named new.name) cs (length cs) ∷ []), length-append cs (new ∷ []), old.one_before);
    }

use Rattle.std.proofs.Common.{◌≡◌, ℕ, List, [], ◌∷◌, length, set, take, Option, subst, sym, ap, ◌∙◌, arith}
use Rattle.std.proofs.lemmas.List.{length-append, length-set, length-take-le}
use Rattle.rio_format.specs.{Chain.{BeforeLead, LastLead, last_before}, Places.{is_named}}
use Rattle.rio_format.proofs.{ChainLaws.{back_befores, back_last_alone, back_last_beside, kept_before}, NewestLaws.{place_below}}
use Rattle.rio_format.proofs.chain.Chain.forget.Goals as goal

pub index_mut-requires : goal.index_mut-requires
index_mut-requires c =
    let below = place_below (is_named c.args.class.now.name) c.args.classes.now c.in-Some.first (sym c.requires.first ∙ c.in-Some.is) in
    omega (arith, below, length-append c.args.classes.now (c.args.class.now ∷ []), c.requires.chain.one_last, c.truncate.ensures.len)

pub returns-in-Some : goal.returns-in-Some
returns-in-Some c =
    let old = c.requires.chain in
    let cs = c.args.classes.now in
    let gone = c.args.class.now in
    let f = c.in-Some.first in
    let last = c.args.self.now.last.items in
    let before = c.args.self.now.before.items in
    let kept : c.before-kept.result ≡ last_before (is_named gone.name) cs (length cs) =
    c.before-kept.ensures ∙ kept_before cs gone last before old.last_leads old.before_leads old.one_last in
    let beside = back_last_beside cs gone last before old.last_leads old.before_leads old.one_last f (sym c.requires.first ∙ c.in-Some.is) in
    record {
      last_leads = subst (λ (xs : List (Option ℕ)). LastLead cs (set xs f c.before-kept.result)) (sym c.truncate.ensures.items)
          (subst (λ (o : Option ℕ). LastLead cs (set (take (length cs) last) f o)) (sym kept) beside);
      before_leads = subst (λ (xs : List (Option ℕ)). BeforeLead cs xs) (sym c.truncate-2.ensures.items) (back_befores cs gone last before old.last_leads old.before_leads old.one_last);
      one_last = omega (arith, length-set c.truncate.new.self.items f c.before-kept.result, ap length c.truncate.ensures.items, length-take-le (length cs) last (omega (arith, old.one_last, length-append cs (gone ∷ []))));
      one_before = omega (arith, ap length c.truncate-2.ensures.items, length-take-le (length cs) before (omega (arith, old.one_before, length-append cs (gone ∷ []))));
    }

pub returns-in_default : goal.returns-in_default
returns-in_default c =
    let old = c.requires.chain in
    let cs = c.args.classes.now in
    let gone = c.args.class.now in
    let last = c.args.self.now.last.items in
    let before = c.args.self.now.before.items in
    record {
      last_leads = subst (λ (xs : List (Option ℕ)). LastLead cs xs) (sym c.truncate.ensures.items) (back_last_alone cs gone last before old.last_leads old.before_leads old.one_last (sym c.requires.first ∙ c.in_default.is));
      before_leads = subst (λ (xs : List (Option ℕ)). BeforeLead cs xs) (sym c.truncate-2.ensures.items) (back_befores cs gone last before old.last_leads old.before_leads old.one_last);
      one_last = omega (arith, ap length c.truncate.ensures.items, length-take-le (length cs) last (omega (arith, old.one_last, length-append cs (gone ∷ []))));
      one_before = omega (arith, ap length c.truncate-2.ensures.items, length-take-le (length cs) before (omega (arith, old.one_before, length-append cs (gone ∷ []))));
    }
